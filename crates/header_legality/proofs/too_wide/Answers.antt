-- `header_legality::too_wide` meets its contract. Assumes nothing.
use mathlib.Core.Path.{ap}
use mathlib.Core.Bool.{not}
use Rattle.header_legality.proofs.Wide.{front-wide, extension-wide}
use Rattle.header_legality.proofs.too_wide.Goals as goal

pub returns-then-not-fits_all : goal.returns-then-not-fits_all
returns-then-not-fits_all c =
    front-wide c.args.header c.front_free-front_widths.result c.front_fields-front.result c.fits_all.result c.front_free-front_widths.ensures c.front_fields-front.ensures c.fits_all.ensures (ap not c.if-not-fits_all.true)

pub returns : goal.returns
returns c =
    extension-wide c.args.header c.front_free-front_widths.result c.front_fields-front.result c.fits_all.result c.front_free-front_widths.ensures c.front_fields-front.ensures c.fits_all.ensures
    c.extension_free-ac_widths.result c.fits_all-2.result c.if-not-fits_all.false c.extension_free-ac_widths.ensures c.fits_all-2.ensures
