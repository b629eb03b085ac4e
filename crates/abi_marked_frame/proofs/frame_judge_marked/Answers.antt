-- `abi_marked_frame::frame_judge_marked` meets its contract. Assumes nothing.
use Rattle.abi_marked_frame.proofs.Cases.{judged-accepted, judged-refused}
use Rattle.abi_marked_frame.proofs.frame_judge_marked.Goals as goal

pub returns-in-Accepted : goal.returns-in-Accepted
returns-in-Accepted c =
    let s = c.args in
    judged-accepted s.frame.now s.marks.now c.read_marked.result c.read_marked.ensures c.in-Accepted.message c.in-Accepted.differing c.in-Accepted.is c.damage.ensures

pub returns-in-Refused : goal.returns-in-Refused
returns-in-Refused c =
    let s = c.args in
    judged-refused s.frame.now s.marks.now c.read_marked.result c.read_marked.ensures c.in-Refused.number c.in-Refused.is c.damage-in-Refused.ensures
