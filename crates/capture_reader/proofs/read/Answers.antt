-- `capture_reader::read` meets its contract. Assumes nothing.
use Rattle.capture_reader.proofs.CaptureReads.{read-main, read-spare, read-neither}
use Rattle.capture_reader.proofs.read.Goals as goal

pub returns-in-Accepted : goal.returns-in-Accepted
returns-in-Accepted c =
    let s = c.args in
    read-main s.edition s.main.now s.spare.now s.n _ _ _ c.read_at.ensures c.in-Accepted.is

pub returns-in-Accepted-read_at : goal.returns-in-Accepted-read_at
returns-in-Accepted-read_at c =
    let s = c.args in
    read-spare s.edition s.main.now s.spare.now s.n _ _ _ _ _ c.read_at.ensures c.in-Refused.is c.read_at-in-Refused.ensures c.in-Accepted-read_at.is

pub returns-in-Refused-read_at : goal.returns-in-Refused-read_at
returns-in-Refused-read_at c =
    let s = c.args in
    read-neither s.edition s.main.now s.spare.now s.n _ _ _ _ c.read_at.ensures c.in-Refused.is c.read_at-in-Refused.ensures c.in-Refused-read_at.is
