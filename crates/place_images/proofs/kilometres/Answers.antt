-- `place_images::kilometres` meets its contract. Assumes nothing.
use Rattle.place.specs.Degrees.{whole}
use Rattle.place_images.proofs.kilometres.Goals as goal

pub returns : goal.returns
unfolding whole
returns c = c.nearest_u64_to_f64.ensures
