-- The cases of the definitions, as the functions come to them. Assumes nothing.
use mathlib.Core.Path.{◌≡◌, ◌∙◌, ap, sym}
use mathlib.Core.Bool.{Bool}
use mathlib.Core.Logic.{◌≢◌}
use mathlib.Core.List.{List}
use Prim.Native.Nat.{ℕ, ◌*◌}
use native.Mathlib.Nat.{add-zero, zero-add}
use lib.ListN.{length}
use borrow.Author.Tests.{eq-eqb, ne_eqb}
use Rattle.bits.specs.Bits.{digit}
use Rattle.abi_record.specs.Values.{value_count, values_of, record_at}
use Rattle.dsc.specs.Marks.{Marking}
use Rattle.frame.specs.Read.{read_by}
use Rattle.frame.specs.Area.{warned_in}
use Rattle.frame.specs.declared.Edition.{Edition}
use Rattle.frame.specs.declared.Record.{Record}
use Rattle.frame.specs.declared.Tuner.{Tuner}
use Rattle.frame.specs.declared.Reading.{Reading}
use Rattle.frame.specs.declared.Reading.TheVariants.{Accepted, Refused}
use Rattle.abi.specs.Status.{status_of}
use Rattle.abi_frame.specs.Frame.{reading_status, reading_values, frame_read_status, frame_read_record, warned_status}

-- ---- a reading told: the status n and the buffer t, which held s

module _ (a : Reading) (s : List ℕ) {n : ℕ} {t : List ℕ} where
  pub told-accepted : {r : Record} {d : ℕ} → a ≡ Accepted r d → n ≡ 65536 * d → t ≡ values_of r → (n ≡ reading_status a) × (t ≡ reading_values a s)
  told-accepted {d = d} e p q = (rw e (p ∙ sym (zero-add (65536 * d))), rw e q)

  pub told-refused : {m : ℕ} → a ≡ Refused m → n ≡ status_of m 0 → t ≡ s → (n ≡ reading_status a) × (t ≡ reading_values a s)
  told-refused {m} e p q = (rw e (p ∙ sym (add-zero (status_of m 0))), rw e q)

-- ---- reading a frame, marked as q says

module _ (ed : Edition) (q : Marking) (tuner : Tuner) (f s : List ℕ) {n : ℕ} {t : List ℕ} where
  pub read-wrong : length s ≢ value_count → n ≡ status_of 1 0 → t ≡ s → (n ≡ frame_read_status ed q tuner f s) × (t ≡ frame_read_record ed q tuner f s)
  unfolding frame_read_status frame_read_record
  read-wrong h e p = let z = ne_eqb (length s) value_count h in (rw z e, rw z p)

  -- the reading a, told
  pub read_told : {a : Reading} → length s ≡ value_count → a ≡ read_by ed q tuner f → (n ≡ reading_status a) × (t ≡ reading_values a s)
      → (n ≡ frame_read_status ed q tuner f s) × (t ≡ frame_read_record ed q tuner f s)
  unfolding frame_read_status frame_read_record
  read_told l e k =
      let z = eq-eqb (length s) value_count l in (rw z (k.0 ∙ ap reading_status e), rw z (k.1 ∙ ap (λ (b : Reading). reading_values b s) e))

-- ---- an area: the status n

module _ (v : List ℕ) (k : ℕ) {n : ℕ} where
  pub warned-wrong : length v ≢ value_count → n ≡ status_of 1 0 → n ≡ warned_status v k
  unfolding warned_status
  warned-wrong h e = rw (ne_eqb (length v) value_count h) e

  -- the answer a of the record r, which is b
  pub warned-answered : {r : Record} {a b : Bool} → length v ≡ value_count → r ≡ record_at v → a ≡ warned_in r k → a ≡ b → n ≡ status_of 0 (digit b) → n ≡ warned_status v k
  unfolding warned_status
  warned-answered l e p q f =
      rw (eq-eqb (length v) value_count l) (f ∙ ap (λ (t : Bool). status_of 0 (digit t)) (sym q ∙ p ∙ ap (λ (r : Record). warned_in r k) e))
