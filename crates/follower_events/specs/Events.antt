-- The kinds of what is announced, and how an update number went (document 01, "Following the update number"; document 02, a). Assumes nothing.
use Rattle.std.specs.Prelude.{Bool, cond, ℕ, ◌+◌, ◌%◌, eqb, leb}
use Rattle.follower_events.specs.declared.Kind.{Kind}
use Rattle.follower_events.specs.declared.Kind.TheVariants.{Real, Test, Safety, SafetyTest}
use Rattle.follower_events.specs.declared.Event.{Event}
use Rattle.follower_events.specs.declared.Event.TheVariants as event

-- real (0, 1), test (2, 3), area safety information (5), its test (6); no other number is asked for its kind
unfoldable pub kind_of : (identification : ℕ) → Kind
kind_of i = cond (leb i 1) Real (cond (leb i 3) Test (cond (eqb i 5) Safety SafetyTest))

-- a number for each kind, by which the C library numbers its states, and the kind that has it; any other number is the last one's
abbrev pub kind_number : Kind → ℕ
kind_number Real = 1
kind_number Test = 2
kind_number Safety = 3
kind_number SafetyTest = 4

unfoldable pub kind_at : ℕ → Kind
kind_at n = cond (eqb n 1) Real (cond (eqb n 2) Test (cond (eqb n 3) Safety SafetyTest))

-- two kinds are the same where their numbers are: no two have one number
abbrev pub same_kind : Kind → Kind → Bool
same_kind h k = eqb (kind_number h) (kind_number k)

-- same kind: u equal "same", u+1 mod 4 "changed", otherwise "skipped"; the old number may be any
unfoldable pub change_of : (old new : ℕ) → Event
change_of old new = cond (eqb new old) event.Same (cond (eqb new ((old + 1) % 4)) event.Changed event.Skipped)
