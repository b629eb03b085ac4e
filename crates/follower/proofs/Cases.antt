-- The cases of a step, as `follow` comes to them. Assumes nothing.
use mathlib.Core.Path.{◌≡◌}
use Prim.Native.Nat.{ℕ}
use Rattle.follower_events.specs.declared.Kind.{Kind}
use Rattle.follower_events.specs.declared.Event.{Event}
use Rattle.follower_events.specs.declared.Event.TheVariants as event
use Rattle.follower.specs.declared.Seen.{Seen}
use Rattle.follower.specs.declared.Seen.TheVariants as seen
use Rattle.follower.specs.declared.Follower.{Follower}
use Rattle.follower.specs.declared.Follower.TheVariants.{Quiet, Active}
use Rattle.follower.specs.declared.Step.{Step}
use Rattle.follower.specs.Follow.{information_event, silence_event, step_seen}

module _ (s : Follower) (x : Seen) where
  pub step-refused : (n : ℕ) → x ≡ seen.Refused n → ◌≡◌ {A = Step} (record { next = s; event = event.Refused n }) (step_seen s x)
  step-refused n e = rw e

  pub step-silent : (t : Follower) → s ≡ t → x ≡ seen.Silence → ◌≡◌ {A = Step} (record { next = Quiet; event = silence_event t }) (step_seen s x)
  step-silent t h e = rw (h, e)

  pub step-informed : (k : Kind) (u : ℕ) (v : Event) → x ≡ seen.Information k u → v ≡ information_event s k u
      → ◌≡◌ {A = Step} (record { next = Active k u; event = v }) (step_seen s x)
  step-informed k u v e h = rw (e, h)
