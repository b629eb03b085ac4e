-- A code word hit in nine places or more: what its distance of 18 from every other code word leaves. No decoder is in here.
-- Assumes nothing.
use mathlib.Core.Path.{◌≡◌, refl, sym, ap, ◌∙◌, subst}
use mathlib.Core.Bool.{Bool, true, false, false≢true, cond}
use mathlib.Core.Logic.{◌≢◌}
use mathlib.Core.List.{List, [], ◌∷◌, ◌++◌}
use Prim.Native.Nat.{ℕ, ◌+◌, ◌≤◌}
use native.Mathlib.Nat.{suc_inj}
use native.Mathlib.Omega.{arith}
use lib.ListN.{length, replicate}
use borrow.Author.Tests.{eq-eqb}
use Rattle.bits.specs.Bits.{digit}
use Rattle.gf2.specs.Polynomial.{zeros, add}
use Rattle.gf2.proofs.Sum.{length-add, add-to-zeros}
use Rattle.dsc.specs.Code.{CodeWord, weight, dist}
use Rattle.dsc.specs.CheckTable.{differences, coefficient, failures}
use Rattle.dsc.specs.Repair.{protected, word_bytes, refused_with, repair_of}
use Rattle.dsc.specs.Promises.{HitWord, RefusedOrWrong, refused, wrong, first_ten}
use Rattle.dsc.specs.declared.Answer.{Answer}
use Rattle.dsc.proofs.Word.{length-word}
use Rattle.dsc.proofs.Distance.{Hits, hits, error-failures, dist-triangle, dist-hit, distance18}
use Rattle.dsc.proofs.Decoding.{Nearest, one, none, nearest}
use Rattle.dsc.proofs.Answers.{length-protected, length-word_bytes, protected-word_bytes, repair-found, repair-none}

pub held : (c e : List Bool) → CodeWord c → length e ≡ 187 → HitWord (weight e) c e (word_bytes (add e c))
held c e k l =
    record {
      size = length-word_bytes (add e c);
      sent = k;
      places = l;
      number = refl;
      received = protected-word_bytes (add e c) (length-add e c ∙ length-word c k);
    }

module _ {n : ℕ} {c e : List Bool} {f : List ℕ} (h : HitWord n c e f) where
  pub from-sent : dist (protected f) c ≡ n
  from-sent = ap (λ r. dist r c) h.received ∙ dist-hit e c (h.places ∙ sym (length-word c h.sent)) ∙ h.number

  module _ (l : 9 ≤ n) (d : List Bool) (k : CodeWord d) (w : dist (protected f) d ≤ 8) where
    -- a code word within eight places is not the sent one, which is farther,
    pub not-sent : d ≢ c
    not-sent same = omega (arith, from-sent, ap (dist (protected f)) same)

    -- and so at least 18 places from it
    pub from-other : 18 ≤ n + dist (protected f) d
    from-other =
        let r : length (protected f) ≡ 187 = length-protected f h.size in
        let apart : 18 ≤ dist c d = distance18 c d h.sent k (λ same. not-sent (sym same)) in
        let t : dist c d ≤ dist (protected f) c + dist (protected f) d
        = dist-triangle (protected f) c d (r ∙ sym (length-word c h.sent)) (r ∙ sym (length-word d k)) in
        omega (arith, from-sent)

  -- what follows for the answer
  pub refused-or-wrong : 9 ≤ n → RefusedOrWrong (λ m. 18 ≤ n + m) c (repair_of f)
  refused-or-wrong l = go (nearest (protected f) (length-protected f h.size))
    where
      go : Nearest (protected f) → RefusedOrWrong (λ m. 18 ≤ n + m) c (repair_of f)
      go (one d k w) = wrong d (dist (protected f) d) k (not-sent l d k w) (from-other l d k w) w (repair-found f h.size d k w)
      go (none z) = refused (repair-none f h.size z)

-- ---- what a law of the counts says of another, and where no count is left

module _ {P : ℕ → Type 0} {c : List Bool} {a : Answer} where
  pub counted : {Q : ℕ → Type 0} → ((m : ℕ) → m ≤ 8 → P m → Q m) → RefusedOrWrong P c a → RefusedOrWrong Q c a
  counted q (refused e) = refused e
  counted q (wrong d m k ne p l e) = wrong d m k ne (q m l p) l e

  pub only-refused : ((m : ℕ) → m ≤ 8 → P m → ⊥) → RefusedOrWrong P c a → a ≡ refused_with 4
  only-refused q (refused e) = e
  only-refused q (wrong d m k ne p l e) = absurd (q m l p)

-- ---- the zero word: a frame holds the places in which it was hit

pub zero-hit : {n : ℕ} {e : List Bool} {f : List ℕ} → HitWord n (zeros 187) e f → protected f ≡ e
zero-hit {e = e} h = h.received ∙ ap (λ n. add e (zeros n)) (sym h.places) ∙ add-to-zeros e

-- ---- B17 to B26: ten of the rows through B17 fail, so a code word within eight places was hit there, and has 0. It is then within seven
-- ---- places of B18 to B26, and these are nine from the zero word.

ten-rows : failures first_ten 186 ≡ 10
unfolding first_ten differences digit
ten-rows = refl

length-first_ten : length first_ten ≡ 187
unfolding first_ten
length-first_ten = refl

first-hit : (c : List Bool) → CodeWord c → dist first_ten c ≤ 8 → coefficient (add first_ten c) 186 ≡ true
first-hit c k w = go (coefficient (add first_ten c) 186) refl
  where
    go : (b : Bool) → coefficient (add first_ten c) 186 ≡ b → coefficient (add first_ten c) 186 ≡ true
    go true e = e
    go false e =
        let n : Hits (add first_ten c) 186 = hits (add first_ten c) 186 (omega (arith, length-add first_ten c, length-word c k)) (omega arith) in
        absurd (omega (arith, n.missed e, error-failures first_ten c length-first_ten k 186, ten-rows))

-- B18 to B26
next_nine : List Bool
next_nine = false ∷ (replicate 9 true ++ zeros 177)

length-next_nine : length next_nine ≡ 187
unfolding next_nine
length-next_nine = refl

nine-ones : dist next_nine (zeros 187) ≡ 9
unfolding add next_nine digit
nine-ones = refl

within-seven : (b : Bool) (c : List Bool) → length c ≡ 186 → coefficient (add first_ten (b ∷ c)) 186 ≡ true → dist first_ten (b ∷ c) ≤ 8
    → dist next_nine (b ∷ c) ≤ 7
unfolding first_ten next_nine add digit
within-seven false c l e w = omega arith
within-seven true c l e w =
    let rest : List Bool = add (replicate 9 true ++ zeros 177) c in
    let n : length rest ≡ 186 = length-add (replicate 9 true ++ zeros 177) c ∙ l in
    absurd (false≢true (sym (ap (λ t. cond t false (coefficient rest 186)) (eq-eqb 186 (length rest) (sym n))) ∙ e))

pub ten-refused : (f : List ℕ) → HitWord 10 (zeros 187) first_ten f → repair_of f ≡ refused_with 4
ten-refused f h =
    repair-none f h.size (λ c k w. none-near c k (subst (λ r. dist r c ≤ 8) (zero-hit h) w) (not-sent h (omega arith) c k w))
  where
    none-near : (c : List Bool) → CodeWord c → dist first_ten c ≤ 8 → c ≢ zeros 187 → ⊥
    none-near [] k w ne = omega (arith, length-word [] k)
    none-near (b ∷ c) k w ne =
        let l : length (b ∷ c) ≡ 187 = length-word (b ∷ c) k in
        let near : dist next_nine (b ∷ c) ≤ 7 = within-seven b c (suc_inj l) (first-hit (b ∷ c) k w) w in
        let t : dist (zeros 187) (b ∷ c) ≤ dist next_nine (zeros 187) + dist next_nine (b ∷ c)
        = dist-triangle next_nine (zeros 187) (b ∷ c) length-next_nine (length-next_nine ∙ sym l) in
        omega (arith, nine-ones, distance18 (zeros 187) (b ∷ c) h.sent k (λ same. ne (sym same)))
