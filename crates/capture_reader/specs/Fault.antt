-- The stop of a run at a fault of its sources.
use Rattle.psd_base.specs.declared.outlet.Input.TheVariants as inputs
use Rattle.psd_base.specs.declared.stop.Stop.{Stop}
use Rattle.psd_base.specs.declared.stop.Stop.TheVariants as stops
use Rattle.capture_reader.specs.declared.fault.Fault.{Fault}
use Rattle.capture_reader.specs.declared.fault.Fault.TheVariants as faults
use Rattle.capture_reader.specs.declared.fault.LineFault.{LineFault}
use Rattle.capture_reader.specs.declared.fault.LineFault.TheVariants as of_line
use Rattle.capture_reader.specs.declared.fault.RecordFault.{RecordFault}
use Rattle.capture_reader.specs.declared.fault.RecordFault.TheVariants as of_record

abbrev pub record_stop : RecordFault → Stop
record_stop of_record.Unread = stops.ReadFault inputs.Capture
record_stop (of_record.Faulty offset why) = stops.Capture offset why

abbrev pub line_stop : LineFault → Stop
line_stop of_line.Unread = stops.ReadFault inputs.Script
line_stop (of_line.Faulty line why) = stops.Script line why

abbrev pub stop_of : Fault → Stop
stop_of (faults.Record fault) = record_stop fault
stop_of (faults.Line fault) = line_stop fault
stop_of faults.TooMany = stops.TooLong
