-- `listing_writer::list` meets its contract. Assumes nothing.
use Rattle.listing_writer.proofs.Listed.{Listed}
use Rattle.listing_writer.proofs.list.Given as goal

abbrev pub invariant-loop-piece : goal.invariant-loop-piece
invariant-loop-piece l =
    Listed l.edition l.pieces l.input l.first l.initial.out l.out l.number l.at l.piece-iterator.rest.now l.piece-iterator.size
