-- `capture::frame_at` meets its contract. Assumes nothing.
use mathlib.Core.Path.{sym, ◌∙◌}
use Rattle.capture.proofs.Choice.{main-within, spare-within, none-bytes, none-position}
use Rattle.capture.proofs.frame_at.Goals as goal

pub part-requires : goal.part-requires
part-requires c = main-within _ _ _ _ (sym c.source.ensures ∙ c.in-Main.is)

pub returns-in-Main : goal.returns-in-Main
returns-in-Main c =
    let source = sym c.source.ensures ∙ c.in-Main.is in
    record { bytes = rw source c.part.ensures.bytes; place = rw source c.part.ensures.place }

pub part-requires-in-Spare : goal.part-requires-in-Spare
part-requires-in-Spare c = spare-within _ _ _ _ (sym c.source.ensures ∙ c.in-Spare.is)

pub returns-in-Spare : goal.returns-in-Spare
returns-in-Spare c =
    let source = sym c.source.ensures ∙ c.in-Spare.is in
    record { bytes = rw source c.part-in-Spare.ensures.bytes; place = rw source c.part-in-Spare.ensures.place }

pub returns-in-None : goal.returns-in-None
returns-in-None c =
    let source = sym c.source.ensures ∙ c.in-None.is in
    record { bytes = none-bytes _ _ _ source; place = none-position _ _ _ source }
