-- Laws of the kinds: each has a number of its own. Assumes nothing.
use mathlib.Core.Path.{◌≡◌, refl, sym, ap, ◌∙◌}
use mathlib.Core.Bool.{true, false}
use mathlib.Core.Logic.{◌≢◌}
use borrow.Author.Tests.{eq-eqb, ne_eqb}
use Rattle.follower_events.specs.declared.Kind.{Kind}
use Rattle.follower_events.specs.declared.Kind.TheVariants.{Real, Test, Safety, SafetyTest}
use Rattle.follower_events.specs.Events.{kind_number, kind_at, same_kind}

pub kind-again : (k : Kind) → kind_at (kind_number k) ≡ k
unfolding kind_at
kind-again Real = refl
kind-again Test = refl
kind-again Safety = refl
kind-again SafetyTest = refl

pub same-kind : (k : Kind) → same_kind k k ≡ true
same-kind k = eq-eqb (kind_number k) (kind_number k) refl

pub other-kind : (h k : Kind) → h ≢ k → same_kind h k ≡ false
other-kind h k n = ne_eqb (kind_number h) (kind_number k) (λ e. n (sym (kind-again h) ∙ ap kind_at e ∙ kind-again k))
