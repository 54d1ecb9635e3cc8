-- The statuses of faults, and the exit codes and texts of statuses.
use Rattle.std.specs.Prelude.{ℕ, List, [], ◌++◌, codes, decimal}
use Rattle.ken_run.specs.declared.faults.RunFault.{RunFault}
use Rattle.ken_run.specs.declared.faults.RunFault.TheVariants as running
use Rattle.ken_drive.specs.declared.saving.SavingFault.{SavingFault}
use Rattle.ken_drive.specs.declared.saving.SavingFault.TheVariants as saving
use Rattle.ken_dump.specs.declared.faults.DumpFault.{DumpFault}
use Rattle.ken_dump.specs.declared.faults.DumpFault.TheVariants as dumping
use Rattle.ken_io.specs.declared.faults.ReadFault.{ReadFault}
use Rattle.ken_io.specs.declared.faults.ReadFault.TheVariants as reading
use Rattle.ken_model.specs.declared.reports.Ending.{Ending}
use Rattle.ken_model.specs.declared.reports.Ending.TheVariants as ending
use Rattle.ken_report.specs.declared.faults.ReportFault.{ReportFault}
use Rattle.ken_report.specs.declared.faults.ReportFault.TheVariants as printing
use Rattle.ken_script.specs.declared.faults.ScriptFault.{ScriptFault}
use Rattle.ken_script.specs.declared.faults.ScriptFault.TheVariants as script
use Rattle.ken_top.specs.declared.status.Status.{Status}
use Rattle.ken_top.specs.declared.status.Status.TheVariants.{Settled, Usage, Script, Cut, Damaged, Down, Read, Write, Memory, Checked, Wrong, Long, Dumped, Open, Device}

abbrev pub exit_code_of : Status → ℕ
exit_code_of Settled = 0
exit_code_of Usage = 1
exit_code_of (Script rule index) = 2
exit_code_of Cut = 3
exit_code_of (Damaged node disk place) = 4
exit_code_of (Down node) = 5
exit_code_of Read = 6
exit_code_of Write = 7
exit_code_of Memory = 8
exit_code_of Checked = 0
exit_code_of (Wrong line) = 9
exit_code_of Long = 10
exit_code_of Dumped = 0
exit_code_of (Open node disk) = 11
exit_code_of (Device node disk) = 12

-- what is said on standard error
abbrev pub text_of : Status → List ℕ
text_of Settled = []
text_of Usage = codes "ken: usage"
text_of (Script rule index) = codes "ken: script: rule S" ++ decimal rule ++ codes " at " ++ decimal index
text_of Cut = codes "ken: cut"
text_of (Damaged node disk place) = codes "ken: node " ++ decimal node ++ codes " disk " ++ decimal disk ++ codes " damaged at " ++ decimal place
text_of (Down node) = codes "ken: node " ++ decimal node ++ codes " is down"
text_of Read = codes "ken: read failed"
text_of Write = codes "ken: write failed"
text_of Memory = codes "ken: out of memory"
text_of Checked = []
text_of (Wrong line) = codes "ken: line " ++ decimal line ++ codes " is wrong"
text_of Long = codes "ken: input too long"
text_of Dumped = []
text_of (Open node disk) = codes "ken: cannot open node " ++ decimal node ++ codes " disk " ++ decimal disk
text_of (Device node disk) = codes "ken: node " ++ decimal node ++ codes " disk " ++ decimal disk ++ codes " failed"

abbrev pub of_reading : ReadFault → Status
of_reading reading.Failed = Read
of_reading reading.Memory = Memory

abbrev pub of_script : ScriptFault → Status
of_script (script.Rule rule index) = Script rule index
of_script script.Memory = Memory

abbrev pub of_running : RunFault → Status
of_running (running.Damaged node disk place) = Damaged node disk place
of_running (running.Down node) = Down node
of_running running.Memory = Memory

abbrev pub of_saving : SavingFault → Status
of_saving (saving.Run fault) = of_running fault
of_saving (saving.Open node disk) = Open node disk
of_saving (saving.Device node disk) = Device node disk

-- of node v
abbrev pub of_dumping : ℕ → DumpFault → Status
of_dumping v (dumping.Open disk) = Open v disk
of_dumping v (dumping.Device disk) = Device v disk
of_dumping v (dumping.Damaged disk place) = Damaged v disk place
of_dumping v dumping.Memory = Memory

abbrev pub of_printing : ReportFault → Status
of_printing printing.Failed = Write
of_printing printing.Memory = Memory

abbrev pub of_ending : Ending → Status
of_ending ending.Settled = Settled
of_ending ending.Cut = Cut
