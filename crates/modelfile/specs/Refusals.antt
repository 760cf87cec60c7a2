-- Document 01, "Refusals", rows 1 to 9: the number of each fault of a file.
use Rattle.std.specs.Prelude.{ℕ}
use Rattle.modelfile.specs.declared.Fault.{Fault}

unfoldable pub fault_number : Fault → ℕ
fault_number Fault.Incomplete = 1
fault_number Fault.NotDue = 2
fault_number Fault.OutOfRange = 3
fault_number Fault.OutOfOrder = 4
fault_number Fault.ChainWithoutCentre = 5
fault_number Fault.CentreAgain = 6
fault_number Fault.TooFewSubtrees = 7
fault_number Fault.NotOneTree = 8
fault_number Fault.PastTheEnd = 9
