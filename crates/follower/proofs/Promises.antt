-- The promises hold. Assumes nothing.
use mathlib.Core.Path.{◌≡◌, refl, sym, ap, ap₂, ◌∙◌, subst}
use mathlib.Core.Bool.{Bool, true, false, true≢false, cond}
use mathlib.Core.Logic.{◌≢◌, ◌⊎◌, inl, inr}
use mathlib.Core.List.{List, [], ◌∷◌, ◌++◌}
use lib.ListN.{length, get_or, drop}
use Prim.Native.Nat.{ℕ, ◌+◌, ◌%◌, ◌<◌}
use native.Mathlib.Omega.{arith}
use lib.Dec.{eqb, ltb}
use borrow.Author.Tests.{eq-eqb, ne_eqb, lt-ltb, ltb-true, ltb-false}
use Rattle.bits.specs.Refusal.{first_refusal}
use Rattle.frame.specs.Identification.{class_of, is_undefined}
use Rattle.bits.specs.Segment.{free_widths}
use Rattle.frame.specs.Body.{row, layout}
use Rattle.frame.specs.Fields.{no_origin, record_from, with_origin, SameFields, scatter, field_widths}
use Rattle.dsc.specs.Repair.{repair_of}
use Rattle.dsc.specs.Marks.{unmarked}
use Rattle.frame.specs.Read.{identification_in, read_of, reading_number}
use Rattle.frame.specs.Promises.{NotSafety, ComesBack}
use Rattle.frame.specs.Write.{Legal, record_refusal, frame_of}
use Rattle.frame.specs.declared.Edition.{Edition}
use Rattle.frame.specs.declared.Edition.TheVariants.{First}
use Rattle.frame.specs.declared.Class.{Class}
use Rattle.frame.specs.declared.Class.TheVariants as class
use Rattle.frame.specs.declared.Tuner.{Tuner}
use Rattle.frame.specs.declared.Tuner.TheVariants.{None}
use Rattle.frame.specs.declared.Origin.{Origin}
use Rattle.frame.specs.declared.Record.{Record}
use Rattle.frame.specs.declared.Reading.{Reading}
use Rattle.frame.specs.declared.Reading.TheVariants.{Accepted, Refused}
use Rattle.frame.proofs.Bodies.{legal-sound}
use Rattle.frame.proofs.Identifications.{class-alike, beyond, silent-class}
use Rattle.frame.proofs.Promises.{read-identification, demand2, origins}
use Rattle.frame.proofs.Origins.{same_by}
use Rattle.frame.proofs.Editions.{editions}
use Rattle.follower_events.specs.declared.Kind.{Kind}
use Rattle.follower_events.specs.declared.Kind.TheVariants.{Real, Test}
use Rattle.follower_events.specs.declared.Event.TheVariants as event
use Rattle.follower.specs.declared.Seen.TheVariants as seen
use Rattle.follower.specs.declared.Follower.{Follower}
use Rattle.follower.specs.declared.Follower.TheVariants.{Quiet, Active}
use Rattle.follower.specs.declared.Step.{Step}
use Rattle.follower_events.specs.Events.{kind_of, same_kind, change_of}
use Rattle.follower_events.proofs.KindNumbers.{same-kind, other-kind}
use Rattle.follower.specs.Follow.{information_event, silence_event, step_seen, informs, seen_in, seen_of, step_of, event_number}
use Rattle.follower.specs.Promises.{Informs, Silences, SomeSilence, state_after, events_of, KindTable, Following, Some, Worked}

-- what has a kind is seen with it
seen-information : (c : Class) (r : Record) → informs c ≡ true → seen_in c r ≡ seen.Information (kind_of r.identification) r.update
seen-information class.Warning r e = refl
seen-information class.SafetyInformation r e = refl
seen-information class.Silent r e = absurd (true≢false (sym e))
seen-information class.Undefined r e = absurd (true≢false (sym e))

-- where a record came from is not seen
from-seen : (c : Class) (o : Origin) (r : Record) → seen_in c (with_origin o r) ≡ seen_in c r
unfolding record_from
from-seen class.Warning o r = refl
from-seen class.SafetyInformation o r = refl
from-seen class.Silent o r = refl
from-seen class.Undefined o r = refl

-- an accepted frame's event has the number 0
change-number : (v u : ℕ) → event_number (change_of v u) ≡ 0
unfolding change_of
change-number v u = go (eqb u v) (eqb u ((v + 1) % 4))
  where
    go : (a b : Bool) → event_number (cond a event.Same (cond b event.Changed event.Skipped)) ≡ 0
    go true b = refl
    go false true = refl
    go false false = refl

information-number : (s : Follower) (k : Kind) (u : ℕ) → event_number (information_event s k u) ≡ 0
information-number Quiet k u = refl
information-number (Active h v) k u = go (same_kind h k)
  where
    go : (t : Bool) → event_number (cond t (change_of v u) event.Begins) ≡ 0
    go true = change-number v u
    go false = refl

silence-number : (s : Follower) → event_number (silence_event s) ≡ 0
silence-number Quiet = refl
silence-number (Active h v) = refl

-- identification 0 to 3: a warning for all areas; 5 and 6: area safety information; 7, with update 0: no information
announcing : (identification update : ℕ) → Record
announcing i u = record_from no_origin (0 ∷ 0 ∷ i ∷ u ∷ [])

module _ (ed : Edition) where
  -- ---- the tuner does not matter

  same_seen : (d : ℕ) (r y : Record) → SameFields r y → seen_of ed (Accepted r d) ≡ seen_of ed (Accepted y d)
  unfolding record_from
  same_seen d = same_by (λ (r : Record). seen_in (class_of ed r.identification) r) (λ o r. from-seen (class_of ed r.identification) o r)

  any_seen : (t u : Tuner) (f : List ℕ) → seen_of ed (read_of ed t f) ≡ seen_of ed (read_of ed u f)
  any_seen t u f = go (read_of ed t f) refl
    where
      go : (a : Reading) → read_of ed t f ≡ a → seen_of ed (read_of ed t f) ≡ seen_of ed (read_of ed u f)
      go (Accepted r d) e =
          let b = (origins ed).other-tuner unmarked t u f r d e in
          ap (seen_of ed) e ∙ same_seen d r b.back b.same ∙ ap (seen_of ed) (sym b.accepted)
      go (Refused n) e = ap (seen_of ed) (e ∙ sym ((origins ed).other-refused unmarked t u f n e))

  any-tuner : (t : Tuner) (s : Follower) (f : List ℕ) → step_of ed s f ≡ step_seen s (seen_of ed (read_of ed t f))
  unfolding step_of
  any-tuner t s f = ap (step_seen s) (any_seen None t f)

  -- ---- a step, by what the frame is

  step-informed : (s : Follower) (f : List ℕ) (k : Kind) (u : ℕ) → Informs ed f k u → step_of ed s f ≡ record { next = Active k u; event = information_event s k u }
  step-informed s f k u w =
      any-tuner w.tuner s f
      ∙ ap (λ (r : Reading). step_seen s (seen_of ed r)) w.read
      ∙ ap (step_seen s) (seen-information (class_of ed w.message.identification) w.message w.class)
      ∙ ap₂ (λ (j : Kind) (v : ℕ). record { next = Active j v; event = information_event s j v }) w.kind w.update

  step-silenced : (s : Follower) (f : List ℕ) → Silences ed f → step_of ed s f ≡ record { next = Quiet; event = silence_event s }
  step-silenced s f w =
      any-tuner w.tuner s f
      ∙ ap (λ (r : Reading). step_seen s (seen_of ed r)) w.read ∙ ap (λ (c : Class). step_seen s (seen_in c w.message)) w.class

  step-refused : (t : Tuner) (s : Follower) (f : List ℕ) (n : ℕ) → read_of ed t f ≡ Refused n → step_of ed s f ≡ record { next = s; event = event.Refused n }
  step-refused t s f n e = any-tuner t s f ∙ ap (λ (r : Reading). step_seen s (seen_of ed r)) e

  event-informed : (s : Follower) (f : List ℕ) (k : Kind) (u : ℕ) → Informs ed f k u → (step_of ed s f).event ≡ information_event s k u
  event-informed s f k u w = ap (λ (t : Step). t.event) (step-informed s f k u w)

  held : (s : Follower) (f : List ℕ) (k : Kind) (u : ℕ) → Informs ed f k u → (step_of ed s f).next ≡ Active k u
  held s f k u w = ap (λ (t : Step). t.next) (step-informed s f k u w)

  -- ---- the event of a warning

  event-again : (f : List ℕ) (k : Kind) (v u : ℕ) → Informs ed f k u → (step_of ed (Active k v) f).event ≡ change_of v u
  event-again f k v u w = event-informed (Active k v) f k u w ∙ rw (same-kind k)

  other-begins : (f : List ℕ) (h k : Kind) (v u : ℕ) → Informs ed f k u → h ≢ k → (step_of ed (Active h v) f).event ≡ event.Begins
  other-begins f h k v u w n = event-informed (Active h v) f k u w ∙ rw (other-kind h k n)

  same : (f : List ℕ) (k : Kind) (u : ℕ) → Informs ed f k u → (step_of ed (Active k u) f).event ≡ event.Same
  unfolding change_of
  same f k u w = event-again f k u u w ∙ rw (eq-eqb u u refl)

  changed : (f : List ℕ) (k : Kind) (v u : ℕ) → Informs ed f k u → u ≡ (v + 1) % 4 → (step_of ed (Active k v) f).event ≡ event.Changed
  unfolding change_of
  changed f k v u w e = event-again f k v u w ∙ rw (ne_eqb u v (λ z. omega arith), eq-eqb u ((v + 1) % 4) e)

  skipped : (f : List ℕ) (k : Kind) (v u : ℕ) → Informs ed f k u → u ≢ v → u ≢ (v + 1) % 4 → (step_of ed (Active k v) f).event ≡ event.Skipped
  unfolding change_of
  skipped f k v u w a b = event-again f k v u w ∙ rw (ne_eqb u v a, ne_eqb u ((v + 1) % 4) b)

  -- ---- what an accepted frame is

  accepted : (t : Tuner) (f : List ℕ) (r : Record) (d : ℕ) → read_of ed t f ≡ Accepted r d → Informs ed f (kind_of r.identification) r.update ⊎ Silences ed f
  accepted t f r d e = go (class_of ed r.identification) refl
    where
      go : (c : Class) → class_of ed r.identification ≡ c → Informs ed f (kind_of r.identification) r.update ⊎ Silences ed f
      go class.Warning q = inl (record { tuner = t; message = r; differing = d; read = e; class = ap informs q; kind = refl; update = refl })
      go class.SafetyInformation q = inl (record { tuner = t; message = r; differing = d; read = e; class = ap informs q; kind = refl; update = refl })
      go class.Silent q = inr (record { tuner = t; message = r; differing = d; read = e; class = q })
      go class.Undefined q = absurd (true≢false (sym (ap is_undefined q) ∙ (legal-sound ed r ((demand2 ed).read-legal unmarked t f r d e)).known))

  numbered : (t : Tuner) (s : Follower) (f : List ℕ) → event_number (step_of ed s f).event ≡ reading_number (read_of ed t f)
  numbered t s f = go (read_of ed t f) refl
    where
      either : {k : Kind} {u : ℕ} → Informs ed f k u ⊎ Silences ed f → event_number (step_of ed s f).event ≡ 0
      either {k} {u} (inl w) = ap event_number (event-informed s f k u w) ∙ information-number s k u
      either (inr w) = ap (λ (t : Step). event_number t.event) (step-silenced s f w) ∙ silence-number s

      go : (r : Reading) → read_of ed t f ≡ r → event_number (step_of ed s f).event ≡ reading_number (read_of ed t f)
      go (Accepted r d) e = either (accepted t f r d e) ∙ sym (ap reading_number e)
      go (Refused n) e = ap (λ (x : Step). event_number x.event) (step-refused t s f n e) ∙ sym (ap reading_number e)

  -- ---- two followers

  forgets : (x : Tuner) (s t : Follower) (f : List ℕ) (r : Record) (d : ℕ) → read_of ed x f ≡ Accepted r d → (step_of ed s f).next ≡ (step_of ed t f).next
  forgets x s t f r d e = go (accepted x f r d e)
    where
      go : {k : Kind} {u : ℕ} → Informs ed f k u ⊎ Silences ed f → (step_of ed s f).next ≡ (step_of ed t f).next
      go {k} {u} (inl w) = held s f k u w ∙ sym (held t f k u w)
      go (inr w) = ap (λ (x : Step). x.next) (step-silenced s f w) ∙ sym (ap (λ (x : Step). x.next) (step-silenced t f w))

  heals : (x : Tuner) (s t : Follower) (fs : List (List ℕ)) (f : List ℕ) (gs : List (List ℕ)) (r : Record) (d : ℕ) → read_of ed x f ≡ Accepted r d
      → state_after ed s (fs ++ f ∷ gs) ≡ state_after ed t (fs ++ f ∷ gs)
  unfolding state_after
  heals x s t [] f gs r d e = ap (λ (y : Follower). state_after ed y gs) (forgets x s t f r d e)
  heals x s t (g ∷ fs) f gs r d e = heals x (step_of ed s g).next (step_of ed t g).next fs f gs r d e

  heals-events : (x : Tuner) (s t : Follower) (fs : List (List ℕ)) (f : List ℕ) (gs : List (List ℕ)) (r : Record) (d : ℕ) → read_of ed x f ≡ Accepted r d
      → drop (length (fs ++ f ∷ [])) (events_of ed s (fs ++ f ∷ gs)) ≡ drop (length (fs ++ f ∷ [])) (events_of ed t (fs ++ f ∷ gs))
  unfolding events_of
  heals-events x s t [] f gs r d e = ap (λ (y : Follower). events_of ed y gs) (forgets x s t f r d e)
  heals-events x s t (g ∷ fs) f gs r d e = heals-events x (step_of ed s g).next (step_of ed t g).next fs f gs r d e

  -- ---- there are such frames

  -- a frame that comes back as the record r, by what r is
  module _ (r : Record) (f : List ℕ) where
    identified : (b : ComesBack r None 0 0 (read_of ed None f)) → b.back.identification ≡ r.identification
    identified b = sym (ap (λ (v : List ℕ). get_or v 2 0) b.same)

    informed-back : informs (class_of ed r.identification) ≡ true → ComesBack r None 0 0 (read_of ed None f) → Informs ed f (kind_of r.identification) r.update
    informed-back c b =
        record {
          tuner = None;
          message = b.back;
          differing = 0;
          read = b.accepted;
          class = ap (λ (n : ℕ). informs (class_of ed n)) (identified b) ∙ c;
          kind = ap kind_of (identified b);
          update = sym (ap (λ (v : List ℕ). get_or v 3 0) b.same);
        }

    silenced-back : class_of ed r.identification ≡ class.Silent → ComesBack r None 0 0 (read_of ed None f) → Silences ed f
    silenced-back c b = record { tuner = None; message = b.back; differing = 0; read = b.accepted; class = ap (class_of ed) (identified b) ∙ c }

  -- it is legal, where the edition has it
  legal : (c : Class) (i u : ℕ) → class_of ed i ≡ c → informs c ≡ true → i < 8 → u < 4 → Legal ed (announcing i u)
  unfolding announcing record_from record_refusal first_refusal row layout scatter field_widths free_widths
  legal class.Warning i u q f hi hu = rw (q, lt-ltb i 8 hi, lt-ltb u 4 hu)
  legal class.SafetyInformation i u q f hi hu = rw (q, lt-ltb i 8 hi, lt-ltb u 4 hu)
  legal class.Silent i u q f hi hu = absurd (true≢false (sym f))
  legal class.Undefined i u q f hi hu = absurd (true≢false (sym f))

  -- and has three bits
  informs-lt : (i : ℕ) → informs (class_of ed i) ≡ true → i < 8
  informs-lt i f = go (ltb 7 i) refl
    where
      go : (t : Bool) → ltb 7 i ≡ t → i < 8
      go true e = absurd (true≢false (sym f ∙ ap informs (beyond ed i (ltb-true 7 i e))))
      go false e = omega (arith, ltb-false 7 i e)

  some : (i u : ℕ) → informs (class_of ed i) ≡ true → u < 4 → Some ed (kind_of i) u
  unfolding announcing record_from
  some i u f h =
      let r = announcing i u in
      let b = (demand2 ed).comes_back None r (legal (class_of ed i) i u refl f (informs-lt i f) h) in
      record { frame = frame_of ed r; informing = informed-back r (frame_of ed r) f b }

  silence-some : SomeSilence ed
  unfolding announcing record_from record_refusal first_refusal row layout scatter field_widths free_widths
  silence-some =
      let r = announcing 7 0 in
      let legal : Legal ed r = rw (silent-class ed) in
      record { frame = frame_of ed r; silences = silenced-back r (frame_of ed r) (silent-class ed) ((demand2 ed).comes_back None r legal) }

  -- ---- another edition

  alike : (other : Edition) (s : Follower) (f : List ℕ) → NotSafety (identification_in (repair_of f).word) → step_of ed s f ≡ step_of other s f
  unfolding step_of
  alike other s f n = go (read_of ed None f) refl
    where
      same_read : read_of ed None f ≡ read_of other None f
      same_read = (editions.frame-alike ed other unmarked f n).read None

      go : (a : Reading) → read_of ed None f ≡ a → step_seen s (seen_of ed (read_of ed None f)) ≡ step_seen s (seen_of other (read_of other None f))
      go (Accepted r d) e =
          let i = r.identification in
          let class : class_of ed i ≡ class_of other i =
          class-alike ed other i (subst NotSafety (sym (read-identification ed unmarked None f r d e)) n) in
          rw (sym same_read, e, class)
      go (Refused m) e = rw (sym same_read, e)

  pub following : Following ed
  following =
      record {
        begins = event-informed Quiet;
        other-begins = other-begins;
        same = same;
        changed = changed;
        skipped = skipped;
        held = held;
        quiet = step-silenced Quiet;
        ended = λ f k v. step-silenced (Active k v) f;
        some = some;
        silence-some = silence-some;
        refused = step-refused;
        accepted = accepted;
        numbered = numbered;
        any-tuner = any-tuner;
        forgets = forgets;
        heals = heals;
        heals-events = heals-events;
        alike = alike;
      }

-- ---- the kinds

pub kind-table : KindTable
unfolding kind_of
kind-table = record { kinds = refl }

-- ---- worked example 9

-- two warnings one after the other
twice : (s : Follower) (f g : List ℕ) (k : Kind) (v u : ℕ) → Informs First f k v → Informs First g k u
    → (step_of First (step_of First s f).next g).event ≡ change_of v u
twice s f g k v u p q = ap (λ (x : Follower). (step_of First x g).event) (held First s f k v p) ∙ event-again First g k v u q

example9-some : (u : ℕ) → u < 4 → Some First Real u × Some First Test u
unfolding class_of kind_of
example9-some u h = (some First 0 u refl h, some First 2 u refl h)

pub worked : Worked
unfolding change_of
worked =
    record {
      example9-changed = λ s f g k p q. twice s f g k 3 0 p q;
      example9-skipped = λ s f g k p q. twice s f g k 0 3 p q;
      example9-some = example9-some;
    }
