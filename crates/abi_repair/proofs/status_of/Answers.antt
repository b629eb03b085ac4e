-- `abi_repair::status_of` meets its contract. Assumes nothing.
use Rattle.abi_repair.proofs.RepairCases.{status-at}
use Rattle.abi_repair.proofs.status_of.Goals as goal

pub returns-in-Repaired : goal.returns-in-Repaired
returns-in-Repaired c = status-at c.in-Repaired.is c.status.ensures

pub returns-in-Refused : goal.returns-in-Refused
returns-in-Refused c = status-at c.in-Refused.is c.status-in-Refused.ensures
