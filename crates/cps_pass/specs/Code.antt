-- What serves the code alone, and no reader need believe.
pub mod Holding
pub mod NamesNow
pub mod Naming
pub mod Opened
pub mod Readings
pub mod Sites
pub mod Taking
