-- The search of the words that are free under the marks finds the code word with 2t+s at most 17, and nothing where there is none; with no marks it is the
-- base's. Assumes nothing.
use mathlib.Core.Path.{◌≡◌, refl, sym, ap, ap₂, ◌∙◌, subst}
use mathlib.Core.Bool.{Bool, true, false, not, true≢false, cond}
use mathlib.Core.List.Memᴰ
use mathlib.Core.List.{List, [], ◌∷◌, ◌++◌, map, Memᴰ}
use Prim.Native.Nat.{ℕ, zero, suc, ◌+◌, ◌-◌, ◌*◌, ◌/◌, ◌≤◌}
use native.Mathlib.Nat.{suc_inj}
use native.Mathlib.Omega.{arith}
use lib.ListN.{length}
use borrow.Author.Tests.{ltb-true, ltb-false}
use Rattle.bits.specs.Bits.{digit}
use Rattle.gf2.specs.Polynomial.{◌⊕◌, add, zeros}
use Rattle.dsc.specs.Code.{CodeWord, weight, dist, is_code_word}
use Rattle.dsc.specs.Repair.{ball, Decoded, corrected, beyond, first_code_word}
use Rattle.dsc.specs.Marks.{filled, unmarked_in, unmarked_dist, Few, marked_ball, radius, over_marked, candidates, decode_marked}
use Rattle.dsc.proofs.Word.{length-word, word-tested, tested-word}
use Rattle.dsc.proofs.Distance.{dist-triangle, close-equal}
use Rattle.dsc.proofs.Decoding.{All, all_append, all_map, all_weaker, mem-map, ball-within, in-ball, is_found, first_found, first-none, first-code-word}

-- ---- the list holds the words within t unmarked places, and no others

-- w has as many bits as r and differs from it in at most t unmarked places
abbrev Within : ℕ → (ms r w : List Bool) → Type 0
Within t ms r w = (length w ≡ length r) × (unmarked_dist ms r w ≤ t)

under-mark : (t : ℕ) (a b : Bool) (ms r w : List Bool) → Memᴰ w (marked_ball t ms r) → Memᴰ (a ∷ w) (marked_ball t (true ∷ ms) (b ∷ r))
unfolding marked_ball
under-mark t false b ms r w m = Memᴰ.append_left (map (true ∷◌) (marked_ball t ms r)) (mem-map (false ∷◌) w (marked_ball t ms r) m)
under-mark t true b ms r w m = Memᴰ.append_right (map (false ∷◌) (marked_ball t ms r)) (mem-map (true ∷◌) w (marked_ball t ms r) m)

same_first : (t : ℕ) (b : Bool) (ms r w : List Bool) → Memᴰ w (marked_ball t ms r) → Memᴰ (b ∷ w) (marked_ball t (false ∷ ms) (b ∷ r))
unfolding marked_ball
same_first zero b ms r w m = mem-map (b ∷◌) w (marked_ball zero ms r) m
same_first (suc t) b ms r w m = Memᴰ.append_left (map (not b ∷◌) (marked_ball t ms r)) (mem-map (b ∷◌) w (marked_ball (suc t) ms r) m)

other-first : (t : ℕ) (b : Bool) (ms r w : List Bool) → Memᴰ w (marked_ball t ms r) → Memᴰ (not b ∷ w) (marked_ball (suc t) (false ∷ ms) (b ∷ r))
unfolding marked_ball
other-first t b ms r w m = Memᴰ.append_right (map (b ∷◌) (marked_ball (suc t) ms r)) (mem-map (not b ∷◌) w (marked_ball t ms r) m)

in-marked : (t : ℕ) (ms r w : List Bool) → Within t ms r w → Memᴰ w (marked_ball t ms r)
unfolding marked_ball filled add digit
in-marked t [] r w h = in-ball t r w h
in-marked t (m ∷ ms) [] [] h = Memᴰ.head refl
in-marked t (m ∷ ms) [] (a ∷ w) h = absurd (omega (arith, h.0))
in-marked t (m ∷ ms) (b ∷ r) [] h = absurd (omega (arith, h.0))
in-marked t (true ∷ ms) (b ∷ r) (a ∷ w) h = under-mark t a b ms r w (in-marked t ms r w (suc_inj h.0, omega (arith, h.1)))
in-marked t (false ∷ ms) (true ∷ r) (true ∷ w) h = same_first t true ms r w (in-marked t ms r w (suc_inj h.0, omega (arith, h.1)))
in-marked t (false ∷ ms) (false ∷ r) (false ∷ w) h = same_first t false ms r w (in-marked t ms r w (suc_inj h.0, omega (arith, h.1)))
in-marked zero (false ∷ ms) (true ∷ r) (false ∷ w) h = absurd (omega (arith, h.1))
in-marked zero (false ∷ ms) (false ∷ r) (true ∷ w) h = absurd (omega (arith, h.1))
in-marked (suc t) (false ∷ ms) (true ∷ r) (false ∷ w) h = other-first t true ms r w (in-marked t ms r w (suc_inj h.0, omega (arith, h.1)))
in-marked (suc t) (false ∷ ms) (false ∷ r) (true ∷ w) h = other-first t false ms r w (in-marked t ms r w (suc_inj h.0, omega (arith, h.1)))

marked-any : (t : ℕ) (a b : Bool) (ms r w : List Bool) → Within t ms r w → Within t (true ∷ ms) (b ∷ r) (a ∷ w)
unfolding filled add digit
marked-any t a b ms r w h = (ap suc h.0, omega (arith, h.1))

unmarked-same : (t : ℕ) (b : Bool) (ms r w : List Bool) → Within t ms r w → Within t (false ∷ ms) (b ∷ r) (b ∷ w)
unfolding filled add digit
unmarked-same t true ms r w h = (ap suc h.0, omega (arith, h.1))
unmarked-same t false ms r w h = (ap suc h.0, omega (arith, h.1))

unmarked-other : (t : ℕ) (b : Bool) (ms r w : List Bool) → Within t ms r w → Within (suc t) (false ∷ ms) (b ∷ r) (not b ∷ w)
unfolding filled add digit
unmarked-other t true ms r w h = (ap suc h.0, omega (arith, h.1))
unmarked-other t false ms r w h = (ap suc h.0, omega (arith, h.1))

marked-within : (t : ℕ) (ms r : List Bool) → All (Within t ms r) (marked_ball t ms r)
unfolding marked_ball filled add
marked-within t [] r = ball-within t r
marked-within t (m ∷ ms) [] = ((refl, omega arith), tt)
marked-within t (true ∷ ms) (b ∷ r) =
    all_append (Within t (true ∷ ms) (b ∷ r)) (map (false ∷◌) (marked_ball t ms r)) (map (true ∷◌) (marked_ball t ms r))
    (all_map (Within t ms r) (Within t (true ∷ ms) (b ∷ r)) (false ∷◌) (marked_ball t ms r) (marked-any t false b ms r) (marked-within t ms r))
    (all_map (Within t ms r) (Within t (true ∷ ms) (b ∷ r)) (true ∷◌) (marked_ball t ms r) (marked-any t true b ms r) (marked-within t ms r))
marked-within zero (false ∷ ms) (b ∷ r) =
    all_map (Within zero ms r) (Within zero (false ∷ ms) (b ∷ r)) (b ∷◌) (marked_ball zero ms r) (unmarked-same zero b ms r) (marked-within zero ms r)
marked-within (suc t) (false ∷ ms) (b ∷ r) =
    all_append (Within (suc t) (false ∷ ms) (b ∷ r)) (map (b ∷◌) (marked_ball (suc t) ms r)) (map (not b ∷◌) (marked_ball t ms r))
    (all_map (Within (suc t) ms r) (Within (suc t) (false ∷ ms) (b ∷ r)) (b ∷◌) (marked_ball (suc t) ms r) (unmarked-same (suc t) b ms r) (marked-within (suc t) ms r))
    (all_map (Within t ms r) (Within (suc t) (false ∷ ms) (b ∷ r)) (not b ∷◌) (marked_ball t ms r) (unmarked-other t b ms r) (marked-within t ms r))

-- ---- two words, seen from a third: they differ at most where one of them does, or where a mark is set

pub marked-triangle : (ms r u w : List Bool) → length ms ≡ length r → length r ≡ length u → length r ≡ length w
    → dist u w ≤ unmarked_dist ms r u + unmarked_dist ms r w + weight ms
unfolding filled add digit
marked-triangle ms [] [] [] hm h l = omega arith
marked-triangle ms [] (a ∷ u) w hm h l = absurd (omega arith)
marked-triangle ms [] [] (b ∷ w) hm h l = absurd (omega arith)
marked-triangle ms (c ∷ r) [] w hm h l = absurd (omega arith)
marked-triangle ms (c ∷ r) (a ∷ u) [] hm h l = absurd (omega arith)
marked-triangle [] (c ∷ r) (a ∷ u) (b ∷ w) hm h l = absurd (omega arith)
marked-triangle (m ∷ ms) (c ∷ r) (a ∷ u) (b ∷ w) hm h l =
    omega (arith, first m c a b, marked-triangle ms r u w (suc_inj hm) (suc_inj h) (suc_inj l))
  where
    first : (m c a b : Bool) → digit (a ⊕ b) ≤ digit (cond m false (c ⊕ a)) + digit (cond m false (c ⊕ b)) + digit m
    first true c true true = omega arith
    first true c true false = omega arith
    first true c false true = omega arith
    first true c false false = omega arith
    first false true true b = omega arith
    first false true false true = omega arith
    first false true false false = omega arith
    first false false true true = omega arith
    first false false true false = omega arith
    first false false false b = omega arith

-- ---- the laws of decode_marked

module _ (ms r : List Bool) (hm : length ms ≡ 187) (h : length r ≡ 187) where
  -- so two code words, t and u unmarked places from r, differ in at most t + u + s places
  pub marked-apart : (c d : List Bool) → CodeWord c → CodeWord d → dist c d ≤ unmarked_dist ms r c + unmarked_dist ms r d + weight ms
  marked-apart c d kc kd = marked-triangle ms r c d (hm ∙ sym h) (h ∙ sym (length-word c kc)) (h ∙ sym (length-word d kd))

  -- and with 2t+s and 2u+s at most 17 they are one
  pub marked-only-one : (c d : List Bool) → CodeWord c → CodeWord d → Few ms (unmarked_dist ms r c) → Few ms (unmarked_dist ms r d) → c ≡ d
  marked-only-one c d kc kd hc hd = close-equal c d kc kd (omega (arith, marked-apart c d kc kd))

  not-over : over_marked ms ≡ false → weight ms ≤ 17
  not-over q = let l = ltb-false _ (weight ms) q in omega arith

  -- the words of the list are those with 2t+s at most 17
  all-few : All (λ w. (length w ≡ length r) × Few ms (unmarked_dist ms r w)) (candidates ms r)
  unfolding candidates
  all-few = go (over_marked ms) refl
    where
      go : (t : Bool) → over_marked ms ≡ t → All (λ w. (length w ≡ length r) × Few ms (unmarked_dist ms r w)) (cond t [] (marked_ball (radius ms) ms r))
      go true q = tt
      go false q =
          let l = not-over q in
          all_weaker (Within (radius ms) ms r) (λ w. (length w ≡ length r) × Few ms (unmarked_dist ms r w)) (marked_ball (radius ms) ms r)
          (λ w n. (n.0, omega (arith, n.1))) (marked-within (radius ms) ms r)

  searched : weight ms ≤ 17 → candidates ms r ≡ marked_ball (radius ms) ms r
  unfolding candidates
  searched l = go (over_marked ms) refl
    where
      go : (t : Bool) → over_marked ms ≡ t → cond t [] (marked_ball (radius ms) ms r) ≡ marked_ball (radius ms) ms r
      go true q = absurd (omega (arith, ltb-true _ (weight ms) q))
      go false q = refl

  pub marked-none : ((c : List Bool) → CodeWord c → Few ms (unmarked_dist ms r c) → ⊥) → decode_marked ms r ≡ beyond
  unfolding decode_marked
  marked-none none =
      first-none (candidates ms r)
      (all_weaker (λ w. (length w ≡ length r) × Few ms (unmarked_dist ms r w)) (λ w. is_code_word w ≡ true → ⊥) (candidates ms r)
      (λ w n t. none w (tested-word w (n.0 ∙ h) t) n.1) all-few)

  pub marked-found : (c : List Bool) → CodeWord c → Few ms (unmarked_dist ms r c) → decode_marked ms r ≡ corrected c
  unfolding decode_marked
  marked-found c k d =
      first_found c (candidates ms r) (word-tested c k)
      (subst (Memᴰ c) (sym (searched (omega arith))) (in-marked (radius ms) ms r c (length-word c k ∙ sym h, near)))
      (all_weaker (λ w. (length w ≡ length r) × Few ms (unmarked_dist ms r w)) (λ w. is_code_word w ≡ true → w ≡ c) (candidates ms r)
      (λ w n t. marked-only-one w c (tested-word w (n.0 ∙ h) t) k n.1 d) all-few)
    where
      near : unmarked_dist ms r c ≤ radius ms
      near = omega arith

-- ---- so there is such a code word, or there is none

pub data MarkedNearest (ms r : List Bool) : Type 0 where
  one : (c : List Bool) → CodeWord c → Few ms (unmarked_dist ms r c) → MarkedNearest ms r
  none : ((c : List Bool) → CodeWord c → Few ms (unmarked_dist ms r c) → ⊥) → MarkedNearest ms r

pub marked-nearest : (ms r : List Bool) → length ms ≡ 187 → length r ≡ 187 → MarkedNearest ms r
unfolding decode_marked
marked-nearest ms r hm h = go (decode_marked ms r) refl
  where
    go : (d : Decoded) → decode_marked ms r ≡ d → MarkedNearest ms r
    go (corrected c) e =
        let n = first-code-word (λ w. (length w ≡ length r) × Few ms (unmarked_dist ms r w)) (candidates ms r) c (all-few ms r hm h) e in
        one c (tested-word c (n.0.0 ∙ h) n.1) n.0.1
    go beyond e = none (λ c k d. true≢false (sym (ap is_found (marked-found ms r hm h c k d)) ∙ ap is_found e))

-- ---- with no marks

pub filled_none : (b : Bool) (n : ℕ) (w : List Bool) → length w ≡ n → filled b (zeros n) w ≡ w
unfolding filled
filled_none b zero w h = refl
filled_none b (suc n) [] h = refl
filled_none b (suc n) (a ∷ w) h = ap (a ∷◌) (filled_none b n w (suc_inj h))

-- the list is the base's
pub ball-unmarked : (t n : ℕ) (r : List Bool) → length r ≡ n → marked_ball t (zeros n) r ≡ ball t r
unfolding marked_ball ball
ball-unmarked t zero r h = refl
ball-unmarked zero (suc n) [] h = refl
ball-unmarked (suc t) (suc n) [] h = refl
ball-unmarked zero (suc n) (b ∷ r) h = ap (map (b ∷◌)) (ball-unmarked zero n r (suc_inj h))
ball-unmarked (suc t) (suc n) (b ∷ r) h =
    ap₂ (λ u w. map (b ∷◌) u ++ map (not b ∷◌) w) (ball-unmarked (suc t) n r (suc_inj h)) (ball-unmarked t n r (suc_inj h))
