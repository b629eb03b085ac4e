-- The turns write the listing of all that the reader gives. Assumes nothing.
use Rattle.std.proofs.Common.{◌≡◌, ◌≢◌, refl, sym, ap, ◌∙◌, subst, ℕ, zero, suc, ◌≤◌, List, [], ◌++◌, append_assoc, append-nil, Option, None, Some, IfSome, arith, length, take, drop, eq-eqb, ne_eqb}
use Rattle.std.specs.Io.KnownBytes.{Appends}
use Rattle.std.proofs.KnownBytes.{Appends-nil, Appends-trans}
use Rattle.frame.specs.declared.Edition.{Edition}
use Rattle.listing.specs.Lines.{listing_of}
use Rattle.listing.specs.declared.Pieces.{Pieces}
use Rattle.listing_turns.specs.Turns.{turns_at_most, start, program_text}
use Rattle.listing_turns.specs.declared.Turn.{Turn}
use Rattle.listing_turns.proofs.Promises.{listing-turns}
use Rattle.listing_io.specs.Reading.{Follows}

-- after some turns, of an input s₀ with a writer that held to₀: what is left of it, and that what was written, and then what the turns to come write, is the
-- whole listing
pub record SoFar (ed : Edition) (p : Pieces) (s₀ : List ℕ) (left to₀ to : Option (List ℕ)) (t : Turn) (out : List ℕ) : Type 0 where
  pub rest : List ℕ
  pub known : left ≡ Some rest
  pub done : List ℕ
  pub wrote : Appends to₀ to done
  pub whole : (k : ℕ) → turns_at_most p ≤ k → done ++ program_text ed p k t rest out ≡ listing_of ed p s₀

module _ (ed : Edition) (p : Pieces) where
  -- before the first turn
  pub begins : (from to : Option (List ℕ)) (out : List ℕ) → 80672 ≤ length out → IfSome from (λ s. SoFar ed p s from to to start out)
  begins None to out room = tt
  begins (Some s) to out room =
      record { rest = s; known = refl; done = []; wrote = Appends-nil to; whole = λ k h. (listing-turns ed p).whole k s out h room }

  -- in one turn less, the text of this one stands in front
  unrolled : (k : ℕ) (t u : Turn) (s out v : List ℕ) (new : Option (List ℕ)) → t.wanted ≢ 0 → Follows ed p t (Some s) new out v u
      → take u.written v ++ program_text ed p k u (drop t.wanted s) v ≡ program_text ed p (suc k) t s out
  unfolding program_text
  unrolled k t u s out v new some f = rw (f.0, f.1, ne_eqb t.wanted 0 some)

  one : (s₀ : List ℕ) (left left' to₀ to to' : Option (List ℕ)) (t u : Turn) (out v : List ℕ) → SoFar ed p s₀ left to₀ to t out → t.wanted ≢ 0
      → Follows ed p t left left' out v u → Appends to to' (take u.written v) → SoFar ed p s₀ left' to₀ to' u v
  one s₀ left left' to₀ to to' t u out v m some f a =
      let f' = subst (λ x. Follows ed p t x left' out v u) m.known f in
      let text = take u.written v in
      record {
        rest = drop t.wanted m.rest;
        known = f'.2;
        done = m.done ++ text;
        wrote = Appends-trans to₀ to to' m.done text m.wrote a;
        whole = λ k h.
            append_assoc m.done text (program_text ed p k u (drop t.wanted m.rest) v) ∙ ap (λ l. m.done ++ l) (unrolled k t u m.rest out v left' some f')
            ∙ m.whole (suc k) (omega arith);
      }

  -- after a turn
  pub goes-on : (from left left' to₀ to to' : Option (List ℕ)) (t u : Turn) (out v : List ℕ) → IfSome from (λ s. SoFar ed p s left to₀ to t out)
      → t.wanted ≢ 0 → Follows ed p t left left' out v u → Appends to to' (take u.written v) → IfSome from (λ s. SoFar ed p s left' to₀ to' u v)
  goes-on None left left' to₀ to to' t u out v m some f a = tt
  goes-on (Some s) left left' to₀ to to' t u out v m some f a = one s left left' to₀ to to' t u out v m some f a

  -- nothing is written where nothing is wanted
  over : (k : ℕ) (t : Turn) (s out : List ℕ) → t.wanted ≡ 0 → program_text ed p k t s out ≡ []
  unfolding program_text
  over zero t s out z = refl
  over (suc k) t s out z = rw (eq-eqb t.wanted 0 z)

  -- after the last
  pub ends : (from left to₀ to : Option (List ℕ)) (t : Turn) (out : List ℕ) → IfSome from (λ s. SoFar ed p s left to₀ to t out)
      → t.wanted ≡ 0 → IfSome from (λ s. Appends to₀ to (listing_of ed p s))
  ends None left to₀ to t out m z = tt
  ends (Some s) left to₀ to t out m z =
      let k = turns_at_most p in
      let all : m.done ≡ listing_of ed p s = sym (append-nil m.done) ∙ ap (λ l. m.done ++ l) (sym (over k t m.rest out z)) ∙ m.whole k (omega arith) in
      subst (Appends to₀ to) all m.wrote
