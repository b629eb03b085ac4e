-- `header_fields::front_of` meets its contract. Assumes nothing.
use lib.ListN.{get_or}
use Rattle.header.specs.Fields.{front_of}
use Rattle.header_fields.proofs.front_of.Goals as goal

pub returns : goal.returns
unfolding front_of
returns c =
    let v = c.args.v.now in
    λ i.
    record {
      packet = get_or v 0 0;
      sync = get_or v 1 0;
      change = get_or v 2 0;
      method = get_or v 3 0;
      form = get_or v 4 0;
      valid = c.run-valid.ensures i;
      streams = c.run-streams.ensures i;
      networks = c.run-networks.ensures i;
      states = c.run-states.ensures i;
      carried = get_or v 65 0;
      emergency = get_or v 66 0;
      slots = c.run-slots.ensures i;
    }
