-- The follower and the captures over plain numbers. What each function returns. Assumes nothing.
use Rattle.std.specs.Prelude.{cond, ◌&&◌, List, ℕ, ◌+◌, ◌*◌, ◌/◌, ◌%◌, leb}
use Rattle.frame.specs.declared.Edition.{Edition}
use Rattle.follower.specs.Follow.{step_of, event_number}
use Rattle.follower_events.specs.Events.{kind_number, kind_at}
use Rattle.follower_events.specs.declared.Event.{Event}
use Rattle.follower_events.specs.declared.Event.TheVariants as event
use Rattle.follower.specs.declared.Follower.{Follower}
use Rattle.follower.specs.declared.Follower.TheVariants.{Quiet, Active}
use Rattle.follower.specs.declared.Step.{Step}
use Rattle.capture.specs.Capture.{source_of, number_at}
use Rattle.abi.specs.Status.{status_of}
use Rattle.abi_tuner.specs.Tuner.{tuner_number}

-- a state's number: 0 quiet, 4+u real, 8+u test, 12+u area safety information, 16+u its test, for the two low bits u of the update number
abbrev pub state_number : Follower → ℕ
state_number Quiet = 0
state_number (Active k u) = 4 * kind_number k + u % 4

-- the state of a number; a number that no state has is taken for quiet, as after a restart
unfoldable pub state_of : ℕ → Follower
state_of n = cond (leb 4 n && leb n 19) (Active (kind_at (n / 4)) (n % 4)) Quiet

abbrev pub event_case : Event → ℕ
event_case event.Quiet = 0
event_case event.Ended = 1
event_case event.Begins = 2
event_case event.Same = 3
event_case event.Changed = 4
event_case event.Skipped = 5
event_case (event.Refused n) = 6

-- the number, 256 times the event's case and 65536 times the next state's number
abbrev pub step_status : Step → ℕ
step_status t = status_of (event_number t.event) (event_case t.event) + 65536 * state_number t.next

unfoldable pub follow_status : Edition → ℕ → List ℕ → ℕ
follow_status ed n f = step_status (step_of ed (state_of n) f)

-- the number of the tuner, 0 where neither has the frame
abbrev pub capture_source : Edition → (main spare : List ℕ) → ℕ → ℕ
capture_source ed main spare n = tuner_number (source_of ed main spare n)

-- main's number, and 256 times spare's
abbrev pub capture_numbers : Edition → (main spare : List ℕ) → ℕ → ℕ
capture_numbers ed main spare n = status_of (number_at ed main n) (number_at ed spare n)
