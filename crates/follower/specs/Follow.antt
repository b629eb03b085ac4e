-- Following the update number (document 01, "Following the update number"; document 02, a) and j), by the edition named. Assumes nothing.
use Rattle.std.specs.Prelude.{Bool, true, false, cond, List, ℕ}
use Rattle.frame.specs.Identification.{class_of}
use Rattle.frame.specs.Read.{read_of}
use Rattle.frame.specs.declared.Edition.{Edition}
use Rattle.frame.specs.declared.Class.{Class}
use Rattle.frame.specs.declared.Class.TheVariants as class
use Rattle.frame.specs.declared.Tuner.TheVariants as tuner
use Rattle.frame.specs.declared.Record.{Record}
use Rattle.frame.specs.declared.Reading.{Reading}
use Rattle.frame.specs.declared.Reading.TheVariants as reading
use Rattle.follower_events.specs.declared.Kind.{Kind}
use Rattle.follower_events.specs.Events.{kind_of, same_kind, change_of}
use Rattle.follower.specs.declared.Seen.{Seen}
use Rattle.follower.specs.declared.Seen.TheVariants as seen
use Rattle.follower_events.specs.declared.Event.{Event}
use Rattle.follower_events.specs.declared.Event.TheVariants as event
use Rattle.follower.specs.declared.Follower.{Follower}
use Rattle.follower.specs.declared.Follower.TheVariants.{Quiet, Active}
use Rattle.follower.specs.declared.Step.{Step}

-- information, which is a warning or area safety information: from quiet, or of any other kind, "begins"
abbrev pub information_event : Follower → Kind → ℕ → Event
information_event Quiet k u = event.Begins
information_event (Active h v) k u = cond (same_kind h k) (change_of v u) event.Begins

-- no information: from quiet "quiet", else "ended"
abbrev pub silence_event : Follower → Event
silence_event Quiet = event.Quiet
silence_event (Active h v) = event.Ended

-- the next state and the event: a refused frame keeps the state, no information makes it quiet, and information's update number is always held
abbrev pub step_seen : Follower → Seen → Step
step_seen s (seen.Refused n) = record { next = s; event = event.Refused n }
step_seen s seen.Silence = record { next = Quiet; event = silence_event s }
step_seen s (seen.Information k u) = record { next = Active k u; event = information_event s k u }

-- a warning or area safety information: what has a kind, and is followed
abbrev pub informs : Class → Bool
informs class.Warning = true
informs class.SafetyInformation = true
informs class.Silent = false
informs class.Undefined = false

-- what an accepted frame's record shows; it is never undefined
abbrev pub seen_in : Class → Record → Seen
seen_in class.Warning r = seen.Information (kind_of r.identification) r.update
seen_in class.SafetyInformation r = seen.Information (kind_of r.identification) r.update
seen_in class.Silent r = seen.Silence
seen_in class.Undefined r = seen.Refused 6

abbrev pub seen_of : Edition → Reading → Seen
seen_of ed (reading.Accepted r d) = seen_in (class_of ed r.identification) r
seen_of ed (reading.Refused n) = seen.Refused n

-- what `step` answers; it is told no tuner, since none matters (`any-tuner`)
unfoldable pub step_of : Edition → Follower → List ℕ → Step
step_of ed s f = step_seen s (seen_of ed (read_of ed tuner.None f))

-- document 01's number of an event
abbrev pub event_number : Event → ℕ
event_number (event.Refused n) = n
event_number event.Quiet = 0
event_number event.Ended = 0
event_number event.Begins = 0
event_number event.Same = 0
event_number event.Changed = 0
event_number event.Skipped = 0
