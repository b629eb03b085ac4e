-- What this crate promises, in the words of documents 01 and 02, a) and j). The records have one value each, `Following` for every edition, proved in
-- proofs/Promises.antt. "Information" is a warning or area safety information, a test of either too. Assumes nothing.
use Rattle.std.specs.Prelude.{◌≡◌, true, ◌≢◌, ◌⊎◌, List, [], ◌∷◌, ◌++◌, ℕ, ◌+◌, ◌%◌, ◌<◌, length, drop}
use Rattle.frame.specs.Identification.{class_of}
use Rattle.dsc.specs.Repair.{repair_of}
use Rattle.frame.specs.Read.{identification_in, read_of, reading_number}
use Rattle.frame.specs.Promises.{NotSafety}
use Rattle.frame.specs.declared.Edition.{Edition}
use Rattle.frame.specs.declared.Edition.TheVariants.{First}
use Rattle.frame.specs.declared.Class.TheVariants as class
use Rattle.frame.specs.declared.Tuner.{Tuner}
use Rattle.frame.specs.declared.Record.{Record}
use Rattle.frame.specs.declared.Reading.TheVariants.{Accepted, Refused}
use Rattle.follower_events.specs.declared.Kind.{Kind}
use Rattle.follower_events.specs.declared.Kind.TheVariants.{Real, Test, Safety, SafetyTest}
use Rattle.follower_events.specs.declared.Event.{Event}
use Rattle.follower_events.specs.declared.Event.TheVariants as event
use Rattle.follower.specs.declared.Follower.{Follower}
use Rattle.follower.specs.declared.Follower.TheVariants.{Quiet, Active}
use Rattle.follower_events.specs.Events.{kind_of}
use Rattle.follower.specs.Follow.{informs, step_seen, seen_of, step_of, event_number}

-- the frame f is accepted, told some tuner (which one does not matter: `any-tuner`), and has information of kind k with the update number u
pub record Informs (ed : Edition) (f : List ℕ) (k : Kind) (u : ℕ) : Type 0 where
  pub tuner : Tuner
  pub message : Record
  pub differing : ℕ
  pub read : read_of ed tuner f ≡ Accepted message differing
  pub class : informs (class_of ed message.identification) ≡ true
  pub kind : kind_of message.identification ≡ k
  pub update : message.update ≡ u

-- the frame f is accepted, told some tuner (which one does not matter: `any-tuner`), and says that there is no information
pub record Silences (ed : Edition) (f : List ℕ) : Type 0 where
  pub tuner : Tuner
  pub message : Record
  pub differing : ℕ
  pub read : read_of ed tuner f ≡ Accepted message differing
  pub class : class_of ed message.identification ≡ class.Silent

-- a frame that says so
pub record SomeSilence (ed : Edition) : Type 0 where
  pub frame : List ℕ
  pub silences : Silences ed frame

-- some frame has information of kind k with the update number u
pub record Some (ed : Edition) (k : Kind) (u : ℕ) : Type 0 where
  pub frame : List ℕ
  pub informing : Informs ed frame k u

-- the state after frames, and their events
unfoldable pub state_after : Edition → Follower → List (List ℕ) → Follower
state_after ed s [] = s
state_after ed s (f ∷ fs) = state_after ed (step_of ed s f).next fs

unfoldable pub events_of : Edition → Follower → List (List ℕ) → List Event
events_of ed s [] = []
events_of ed s (f ∷ fs) = (step_of ed s f).event ∷ events_of ed (step_of ed s f).next fs

-- the kinds
pub record KindTable : Type 0 where
  -- 0 and 1 are real, 2 and 3 a test, 5 is area safety information, 6 its test
  pub kinds : kind_of 0 ∷ kind_of 1 ∷ kind_of 2 ∷ kind_of 3 ∷ kind_of 5 ∷ kind_of 6 ∷ [] ≡ Real ∷ Real ∷ Test ∷ Test ∷ Safety ∷ SafetyTest ∷ []

pub record Following (ed : Edition) : Type 0 where
  -- information from quiet, or of any other kind: "begins"
  pub begins : (f : List ℕ) (k : Kind) (u : ℕ) → Informs ed f k u → (step_of ed Quiet f).event ≡ event.Begins
  pub other-begins : (f : List ℕ) (h k : Kind) (v u : ℕ) → Informs ed f k u → h ≢ k → (step_of ed (Active h v) f).event ≡ event.Begins
  -- same kind: u equal "same", u+1 mod 4 "changed", otherwise "skipped", whatever number the state holds
  pub same : (f : List ℕ) (k : Kind) (u : ℕ) → Informs ed f k u → (step_of ed (Active k u) f).event ≡ event.Same
  pub changed : (f : List ℕ) (k : Kind) (v u : ℕ) → Informs ed f k u → u ≡ (v + 1) % 4 → (step_of ed (Active k v) f).event ≡ event.Changed
  pub skipped : (f : List ℕ) (k : Kind) (v u : ℕ) → Informs ed f k u → u ≢ v → u ≢ (v + 1) % 4 → (step_of ed (Active k v) f).event ≡ event.Skipped
  -- after information the new state always holds the new u, and its kind
  pub held : (s : Follower) (f : List ℕ) (k : Kind) (u : ℕ) → Informs ed f k u → (step_of ed s f).next ≡ Active k u
  -- no information: from quiet "quiet", else "ended", and the state is quiet
  pub quiet : (f : List ℕ) → Silences ed f → step_of ed Quiet f ≡ record { next = Quiet; event = event.Quiet }
  pub ended : (f : List ℕ) (k : Kind) (v : ℕ) → Silences ed f → step_of ed (Active k v) f ≡ record { next = Quiet; event = event.Ended }
  -- there are frames of every identification that the edition has for information, with every update
  pub some : (i u : ℕ) → informs (class_of ed i) ≡ true → u < 4 → Some ed (kind_of i) u
  -- some frame says that there is no information
  pub silence-some : SomeSilence ed
  -- a refused frame gives its number and the old state
  pub refused : (t : Tuner) (s : Follower) (f : List ℕ) (n : ℕ) → read_of ed t f ≡ Refused n → step_of ed s f ≡ record { next = s; event = event.Refused n }
  -- every accepted frame has information or says that there is none
  pub accepted : (t : Tuner) (f : List ℕ) (r : Record) (d : ℕ) → read_of ed t f ≡ Accepted r d → Informs ed f (kind_of r.identification) r.update ⊎ Silences ed f
  -- the event has the frame's number, 0 where it is accepted
  pub numbered : (t : Tuner) (s : Follower) (f : List ℕ) → event_number (step_of ed s f).event ≡ reading_number (read_of ed t f)
  -- whichever tuner the frame came from, the step is the same: by what the reader says of it, told that tuner
  pub any-tuner : (t : Tuner) (s : Follower) (f : List ℕ) → step_of ed s f ≡ step_seen s (seen_of ed (read_of ed t f))
  -- after an accepted frame the next state does not depend on the old one
  pub forgets : (x : Tuner) (s t : Follower) (f : List ℕ) (r : Record) (d : ℕ) → read_of ed x f ≡ Accepted r d → (step_of ed s f).next ≡ (step_of ed t f).next
  -- so a restart is healed by the first accepted frame, whatever came before it
  pub heals : (x : Tuner) (s t : Follower) (fs : List (List ℕ)) (f : List ℕ) (gs : List (List ℕ)) (r : Record) (d : ℕ) → read_of ed x f ≡ Accepted r d
      → state_after ed s (fs ++ f ∷ gs) ≡ state_after ed t (fs ++ f ∷ gs)
  -- and every event after that frame is the same too
  pub heals-events : (x : Tuner) (s t : Follower) (fs : List (List ℕ)) (f : List ℕ) (gs : List (List ℕ)) (r : Record) (d : ℕ) → read_of ed x f ≡ Accepted r d
      → drop (length (fs ++ f ∷ [])) (events_of ed s (fs ++ f ∷ gs)) ≡ drop (length (fs ++ f ∷ [])) (events_of ed t (fs ++ f ∷ gs))
  -- which edition is named does not matter to a frame whose repaired identification is not 5 or 6
  pub alike : (other : Edition) (s : Follower) (f : List ℕ) → NotSafety (identification_in (repair_of f).word) → step_of ed s f ≡ step_of other s f

-- document 01's worked example 9, in the first edition
pub record Worked : Type 0 where
  -- update 3 then 0, same kind: "changed"
  pub example9-changed : (s : Follower) (f g : List ℕ) (k : Kind) → Informs First f k 3 → Informs First g k 0
      → (step_of First (step_of First s f).next g).event ≡ event.Changed
  -- 0 then 3: "skipped"
  pub example9-skipped : (s : Follower) (f g : List ℕ) (k : Kind) → Informs First f k 0 → Informs First g k 3
      → (step_of First (step_of First s f).next g).event ≡ event.Skipped
  -- there are such frames, of each kind that the first edition has, and of each update
  pub example9-some : (u : ℕ) → u < 4 → Some First Real u × Some First Test u
