-- `gvozdyana::gvz_desk` meets its contract: the answer and the fields are those of `abi_place::desk`. `search` finds this too; the file is here so that a wrong
-- answer is refused by the fact that fails. Assumes nothing.
use Rattle.gvozdyana.proofs.gvz_desk.Goals as goal

pub returns : goal.returns
returns c = record { value = c.desk.ensures.status; fields_after = c.desk.ensures.fields }
