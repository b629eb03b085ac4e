-- Where a record came from is not looked at: what is defined of a record by its fields is the same from any origin. Assumes nothing.
use mathlib.Core.Path.{◌≡◌, refl, sym, ap, ◌∙◌}
use mathlib.Core.Bool.{Bool, true, false}
use mathlib.Core.List.{List}
use Prim.Native.Nat.{ℕ}
use lib.Dec.{eqb}
use lib.ListN.{length}
use borrow.Author.Tests.{eqb-true, eqb-false}
use Rattle.frame.specs.Fields.{fields, record_from, with_origin, SameFields, body_values}
use Rattle.frame.specs.Area.{warned_in}
use Rattle.frame.specs.Write.{Legal, announced, message_bits, record_refusal, frame_of, write_number, write_of}
use Rattle.frame.specs.declared.Edition.{Edition}
use Rattle.frame.specs.declared.Origin.{Origin}
use Rattle.frame.specs.declared.Record.{Record}
use Rattle.frame.proofs.Written.{left, unchanged}

-- the fields are the record's own
pub from_fields : (o : Origin) (r : Record) → fields (with_origin o r) ≡ fields r
unfolding record_from
from_fields o r = refl

pub from-origin : (o : Origin) (r : Record) → (with_origin o r).origin ≡ o
unfolding record_from
from-origin o r = refl

-- only the last origin counts
pub from-again : (o p : Origin) (r : Record) → with_origin o (with_origin p r) ≡ with_origin o r
unfolding record_from
from-again o p r = refl

pub from-own : (r : Record) → with_origin r.origin r ≡ r
unfolding record_from
from-own r = refl

-- records with the same fields are one from the other's origin
pub same_from : (r s : Record) → SameFields r s → r ≡ with_origin r.origin s
same_from r s e = sym (from-own r) ∙ ap (record_from r.origin) e

pub same_whole : (r s : Record) → SameFields r s → r.origin ≡ s.origin → r ≡ s
same_whole r s e q = same_from r s e ∙ ap (λ (o : Origin). with_origin o s) q ∙ from-own s

-- what does not look at the origin is the same of both
pub same_by : {A : Type 0} (g : Record → A) → ((o : Origin) (r : Record) → g (with_origin o r) ≡ g r) → (r s : Record) → SameFields r s → g r ≡ g s
same_by g h r s e = ap g (same_from r s e) ∙ h r.origin s

module _ (ed : Edition) where
  pub from-refusal : (o : Origin) (r : Record) → record_refusal ed (with_origin o r) ≡ record_refusal ed r
  unfolding record_from record_refusal
  from-refusal o r = refl

  pub from-legal : (o : Origin) (r : Record) → Legal ed r → Legal ed (with_origin o r)
  from-legal o r l = from-refusal o r ∙ l

  pub from-frame : (o : Origin) (r : Record) → frame_of ed (with_origin o r) ≡ frame_of ed r
  unfolding record_from frame_of message_bits announced body_values
  from-frame o r = refl

  -- they have one frame
  pub same-frame : (r s : Record) → SameFields r s → frame_of ed r ≡ frame_of ed s
  same-frame = same_by (frame_of ed) from-frame

  from-number : (n : ℕ) (o : Origin) (r : Record) → write_number ed (with_origin o r) n ≡ write_number ed r n
  unfolding write_number
  from-number n o r = rw (from-refusal o r)

  from-written : (b : List ℕ) (o : Origin) (r : Record) → write_of ed (with_origin o r) b ≡ write_of ed r b
  from-written b o r = go (eqb n 0) refl
    where
      n : ℕ
      n = write_number ed r (length b)

      go : (t : Bool) → eqb n 0 ≡ t → write_of ed (with_origin o r) b ≡ write_of ed r b
      go true e = let z = eqb-true n 0 e in left ed (with_origin o r) b (from-number (length b) o r ∙ z) ∙ from-frame o r ∙ sym (left ed r b z)
      go false e =
          let z = eqb-false n 0 e in unchanged ed (with_origin o r) b (λ y. z (sym (from-number (length b) o r) ∙ y)) ∙ sym (unchanged ed r b z)

  pub same-legal : (r s : Record) → SameFields r s → record_refusal ed r ≡ record_refusal ed s
  same-legal = same_by (record_refusal ed) from-refusal

  pub same-written : (r s : Record) → SameFields r s → ((n : ℕ) → write_number ed r n ≡ write_number ed s n) × ((b : List ℕ) → write_of ed r b ≡ write_of ed s b)
  same-written r s e =
      (λ n. same_by (λ (y : Record). write_number ed y n) (from-number n) r s e, λ b. same_by (λ (y : Record). write_of ed y b) (from-written b) r s e)

from-warned : (k : ℕ) (o : Origin) (r : Record) → warned_in (with_origin o r) k ≡ warned_in r k
unfolding record_from warned_in
from-warned k o r = refl

pub same-warned : (r s : Record) → SameFields r s → (k : ℕ) → warned_in r k ≡ warned_in s k
same-warned r s e k = same_by (λ (y : Record). warned_in y k) (from-warned k) r s e
