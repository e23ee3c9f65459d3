pub mod CertificateLemmas
pub mod RunLemmas
pub mod SpanLemmas
pub mod WantedLemmas
pub mod WordLaws
