-- Within eight places of a code word, a place was hit exactly if nine or more of its rows fail; so flipping those gives the word.
-- Assumes nothing.
use mathlib.Core.Path.{◌≡◌, refl, sym, ap, ap₂, ◌∙◌, subst}
use mathlib.Core.Bool.{Bool, true, false, cond}
use mathlib.Core.List.{List, [], ◌∷◌}
use Prim.Native.Nat.{ℕ, suc, ◌≤◌, ◌<◌}
use native.Mathlib.Nat.{suc_inj}
use native.Mathlib.Omega.{arith}
use lib.Dec.{leb}
use lib.ListN.{length}
use borrow.Author.Tests.{eq-eqb, ne_eqb, le-leb, lt-leb}
use Rattle.gf2.specs.Polynomial.{◌⊕◌, add}
use Rattle.gf2.proofs.Sum.{length-add, add-self}
use Rattle.dsc.specs.Code.{CodeWord, dist, is_code_word}
use Rattle.dsc.specs.CheckTable.{coefficient, failures}
use Rattle.dsc.specs.Repair.{beyond, decode, repaired_to, refused_with, answer_to}
use Rattle.dsc.specs.Majority.{flipped}
use Rattle.dsc.proofs.Word.{length-word, word-tested, tested-word}
use Rattle.dsc.proofs.Distance.{Hits, hits, error-failures}
use Rattle.dsc.proofs.Decoding.{decode-found, decode-none}

pub length-flipped : (r w : List Bool) → length (flipped r w) ≡ length w
length-flipped r [] = refl
length-flipped r (b ∷ w) = ap suc (length-flipped r w)

module _ (r c : List Bool) (h : length r ≡ 187) (k : CodeWord c) where
  lengths : length r ≡ length c
  lengths = h ∙ sym (length-word c k)

  majority : dist r c ≤ 8 → (p : ℕ) → p < 187 → leb 9 (failures r p) ≡ coefficient (add r c) p
  majority d p hp = go (coefficient (add r c) p) refl
    where
      same : failures (add r c) p ≡ failures r p
      same = error-failures r c h k p

      n : Hits (add r c) p
      n = hits (add r c) p (omega (arith, length-add r c, length-word c k)) (omega arith)

      go : (b : Bool) → coefficient (add r c) p ≡ b → leb 9 (failures r p) ≡ coefficient (add r c) p
      go true e = le-leb 9 (failures r p) (omega (arith, n.struck e, same)) ∙ sym e
      go false e = lt-leb 9 (failures r p) (omega (arith, n.missed e, same)) ∙ sym e

-- flipping adds the word of those places
pub flipped-add : (r w e : List Bool) → length w ≡ length e → ((p : ℕ) → p < length w → leb 9 (failures r p) ≡ coefficient e p) → flipped r w ≡ add w e
unfolding add
flipped-add r [] [] h m = refl
flipped-add r [] (b ∷ e) h m = absurd (omega arith)
flipped-add r (a ∷ w) [] h m = absurd (omega arith)
flipped-add r (a ∷ w) (b ∷ e) h m =
    ap₂ ◌∷◌ (ap (a ⊕◌) (m (length w) (omega arith) ∙ ap (λ t. cond t b (coefficient e (length w))) (eq-eqb (length w) (length e) (suc_inj h))))
    (flipped-add r w e (suc_inj h) (λ p hp. m p (omega arith) ∙ ap (λ t. cond t b (coefficient e p)) (ne_eqb p (length e) (λ q. omega arith))))

pub flipped_word : (r c : List Bool) → length r ≡ 187 → CodeWord c → dist r c ≤ 8 → flipped r r ≡ c
flipped_word r c h k d =
    flipped-add r r (add r c) (h ∙ sym (length-add r c ∙ length-word c k)) (λ p hp. majority r c h k d p (omega arith)) ∙ add-self r c

-- so where the flipped word is none within eight places, there is none
pub flipped-none : (r : List Bool) → length r ≡ 187 → (CodeWord (flipped r r) → dist r (flipped r r) ≤ 8 → ⊥) → decode r ≡ beyond
flipped-none r h n =
    decode-none r h λ c k d.
    let e = sym (flipped_word r c h k d) in
    n (subst CodeWord e k) (subst (λ w. dist r w ≤ 8) e d)

-- ---- the answer to 187 bits, as an engine comes to it

module _ (r : List Bool) (h : length r ≡ 187) where
  pub answer-found : (c : List Bool) (n : ℕ) → is_code_word c ≡ true → length c ≡ 187 → n ≡ dist r c → n ≤ 8 → repaired_to c n ≡ answer_to r (decode r)
  unfolding answer_to
  answer-found c n t l e d = rw (decode-found r h c (tested-word c l t) (omega arith)) (ap (repaired_to c) e)

  -- a word that is no code word, or differs in more than eight places, is not what the majority gives within eight
  pub answer-none : (w : List Bool) → w ≡ flipped r r → (is_code_word w ≡ true → dist r w ≤ 8 → ⊥) → refused_with 4 ≡ answer_to r (decode r)
  unfolding answer_to
  answer-none w e n = rw (flipped-none r h (λ k d. n (word-tested w (subst CodeWord (sym e) k)) (subst (λ u. dist r u ≤ 8) (sym e) d)))
