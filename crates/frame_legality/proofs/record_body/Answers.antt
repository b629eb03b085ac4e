-- `frame_legality::record_body` meets its contract. Assumes nothing.
use mathlib.Core.Path.{◌≡◌, ◌∙◌, ap}
use Rattle.frame.specs.Identification.{class_of}
use Rattle.frame.specs.Body.{body_of}
use Rattle.frame.specs.Fields.{record_body}
use Rattle.frame.specs.declared.Edition.{Edition}
use Rattle.frame.specs.declared.Body.{Body}
use Rattle.frame.specs.declared.Class.{Class}
use Rattle.frame.specs.declared.Record.{Record}
use Rattle.frame_legality.proofs.record_body.Goals as goal

-- `frame_legality::record_body` meets its contract. Assumes nothing.
-- the body by the class that was found
found : (ed : Edition) (r : Record) {k : Class} {b : Body} → k ≡ class_of ed r.identification → b ≡ body_of k r.page r.kind → b ≡ record_body ed r
found ed r ek eb = eb ∙ ap (λ (x : Class). body_of x r.page r.kind) ek

pub returns : goal.returns
returns c = found c.args.edition c.args.contents c.class_of.ensures c.body_of.ensures
