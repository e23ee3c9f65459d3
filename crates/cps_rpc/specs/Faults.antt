-- What the faults of a stream and of a writing are to a server, as the code tells them.
use Rattle.cps_rpc.specs.declared.stream.StreamFault.{StreamFault}
use Rattle.cps_rpc.specs.declared.stream.StreamFault.TheVariants as stream
use Rattle.cps_list.specs.declared.writing.ListFault.{ListFault}
use Rattle.cps_list.specs.declared.writing.ListFault.TheVariants as writing
use Rattle.cps_rpc.specs.declared.fault.ServerFault.{ServerFault}
use Rattle.cps_rpc.specs.declared.fault.ServerFault.TheVariants as faults

abbrev pub of_stream : StreamFault → ServerFault
of_stream stream.BadHeader = faults.BadHeader
of_stream stream.Memory = faults.Memory

abbrev pub of_writing : ListFault → ServerFault
of_writing writing.WriteFault = faults.WriteFault
of_writing writing.Memory = faults.Memory
