-- The search of the ball finds the code word within eight places, and nothing where there is none. Assumes nothing.
use mathlib.Core.Path.{◌≡◌, refl, sym, ap, ◌∙◌, subst}
use mathlib.Core.Bool.{Bool, true, false, not, true≢false, cond}
use mathlib.Core.Logic.{◌⊎◌, inl, inr}
use mathlib.Core.List.Memᴰ
use mathlib.Core.List.{List, [], ◌∷◌, ◌++◌, map, Memᴰ}
use Prim.Native.Nat.{ℕ, zero, suc, ◌≤◌}
use native.Mathlib.Nat.{suc_inj}
use native.Mathlib.Omega.{arith}
use lib.ListN.{length}
use Rattle.bits.specs.Bits.{digit}
use Rattle.gf2.specs.Polynomial.{add}
use Rattle.dsc.specs.Code.{CodeWord, dist, is_code_word}
use Rattle.dsc.specs.Repair.{ball, Decoded, corrected, beyond, first_code_word, decode}
use Rattle.dsc.proofs.Word.{length-word, word-tested, tested-word}
use Rattle.dsc.proofs.Distance.{only_one}

-- ---- what holds of every word of a list

abbrev pub All : (List Bool → Type 0) → List (List Bool) → Type 0
All P [] = Unit {0}
All P (w ∷ ws) = P w × All P ws

pub all_append : (P : List Bool → Type 0) (us ws : List (List Bool)) → All P us → All P ws → All P (us ++ ws)
all_append P [] ws a b = b
all_append P (u ∷ us) ws a b = (a.0, all_append P us ws a.1 b)

pub all_map : (P Q : List Bool → Type 0) (f : List Bool → List Bool) (ws : List (List Bool)) → ((w : List Bool) → P w → Q (f w)) → All P ws → All Q (map f ws)
all_map P Q f [] g a = tt
all_map P Q f (w ∷ ws) g a = (g w a.0, all_map P Q f ws g a.1)

pub all_weaker : (P Q : List Bool → Type 0) (ws : List (List Bool)) → ((w : List Bool) → P w → Q w) → All P ws → All Q ws
all_weaker P Q [] g a = tt
all_weaker P Q (w ∷ ws) g a = (g w a.0, all_weaker P Q ws g a.1)

pub mem-map : (f : List Bool → List Bool) (w : List Bool) (ws : List (List Bool)) → Memᴰ w ws → Memᴰ (f w) (map f ws)
mem-map f w [] m = absurd (Memᴰ.not-nil m)
mem-map f w (x ∷ ws) m = go (Memᴰ.cases_cons m) (mem-map f w ws)
  where
    go : (w ≡ x) ⊎ Memᴰ w ws → (Memᴰ w ws → Memᴰ (f w) (map f ws)) → Memᴰ (f w) (map f (x ∷ ws))
    go (inl e) ih = Memᴰ.head (ap f e)
    go (inr m) ih = Memᴰ.tail (ih m)

-- ---- the ball holds the words within t places, and no others

-- w has as many bits as r and differs from it in at most t places
abbrev pub Within : ℕ → List Bool → List Bool → Type 0
Within t r w = (length w ≡ length r) × (dist r w ≤ t)

within_same : (t : ℕ) (b : Bool) (r w : List Bool) → Within t r w → Within t (b ∷ r) (b ∷ w)
unfolding add digit
within_same t true r w h = (ap suc h.0, omega (arith, h.1))
within_same t false r w h = (ap suc h.0, omega (arith, h.1))

within-other : (t : ℕ) (b : Bool) (r w : List Bool) → Within t r w → Within (suc t) (b ∷ r) (not b ∷ w)
unfolding add digit
within-other t true r w h = (ap suc h.0, omega (arith, h.1))
within-other t false r w h = (ap suc h.0, omega (arith, h.1))

pub ball-within : (t : ℕ) (r : List Bool) → All (Within t r) (ball t r)
unfolding ball add
ball-within zero [] = ((refl, omega arith), tt)
ball-within (suc t) [] = ((refl, omega arith), tt)
ball-within zero (b ∷ r) = all_map (Within zero r) (Within zero (b ∷ r)) (b ∷◌) (ball zero r) (within_same zero b r) (ball-within zero r)
ball-within (suc t) (b ∷ r) =
    all_append (Within (suc t) (b ∷ r)) (map (b ∷◌) (ball (suc t) r)) (map (not b ∷◌) (ball t r))
    (all_map (Within (suc t) r) (Within (suc t) (b ∷ r)) (b ∷◌) (ball (suc t) r) (within_same (suc t) b r) (ball-within (suc t) r))
    (all_map (Within t r) (Within (suc t) (b ∷ r)) (not b ∷◌) (ball t r) (within-other t b r) (ball-within t r))

same_first : (t : ℕ) (b : Bool) (r w : List Bool) → Memᴰ w (ball t r) → Memᴰ (b ∷ w) (ball t (b ∷ r))
unfolding ball
same_first zero b r w m = mem-map (b ∷◌) w (ball zero r) m
same_first (suc t) b r w m = Memᴰ.append_left (map (not b ∷◌) (ball t r)) (mem-map (b ∷◌) w (ball (suc t) r) m)

other-first : (t : ℕ) (b : Bool) (r w : List Bool) → Memᴰ w (ball t r) → Memᴰ (not b ∷ w) (ball (suc t) (b ∷ r))
unfolding ball
other-first t b r w m = Memᴰ.append_right (map (b ∷◌) (ball (suc t) r)) (mem-map (not b ∷◌) w (ball t r) m)

pub in-ball : (t : ℕ) (r w : List Bool) → Within t r w → Memᴰ w (ball t r)
unfolding ball add digit
in-ball zero [] [] h = Memᴰ.head refl
in-ball (suc t) [] [] h = Memᴰ.head refl
in-ball t [] (a ∷ w) h = absurd (omega (arith, h.0))
in-ball t (b ∷ r) [] h = absurd (omega (arith, h.0))
in-ball t (true ∷ r) (true ∷ w) h = same_first t true r w (in-ball t r w (suc_inj h.0, omega (arith, h.1)))
in-ball t (false ∷ r) (false ∷ w) h = same_first t false r w (in-ball t r w (suc_inj h.0, omega (arith, h.1)))
in-ball zero (true ∷ r) (false ∷ w) h = absurd (omega (arith, h.1))
in-ball zero (false ∷ r) (true ∷ w) h = absurd (omega (arith, h.1))
in-ball (suc t) (true ∷ r) (false ∷ w) h = other-first t true r w (in-ball t r w (suc_inj h.0, omega (arith, h.1)))
in-ball (suc t) (false ∷ r) (true ∷ w) h = other-first t false r w (in-ball t r w (suc_inj h.0, omega (arith, h.1)))

-- ---- the first code word of a list

abbrev pub found : Decoded → List Bool
found (corrected c) = c
found beyond = []

abbrev pub is_found : Decoded → Bool
is_found (corrected c) = true
is_found beyond = false

pub first_found : (c : List Bool) (ws : List (List Bool)) → is_code_word c ≡ true → Memᴰ c ws → All (λ w. is_code_word w ≡ true → w ≡ c) ws → first_code_word ws ≡ corrected c
unfolding first_code_word
first_found c [] k m a = absurd (Memᴰ.not-nil m)
first_found c (w ∷ ws) k m a = go (is_code_word w) refl (Memᴰ.cases_cons m) (λ m. first_found c ws k m a.1)
  where
    go : (t : Bool) → is_code_word w ≡ t → (c ≡ w) ⊎ Memᴰ c ws → (Memᴰ c ws → first_code_word ws ≡ corrected c) → cond t (corrected w) (first_code_word ws) ≡ corrected c
    go true e m ih = ap corrected (a.0 e)
    go false e (inl q) ih = absurd (true≢false (sym k ∙ ap is_code_word q ∙ e))
    go false e (inr m) ih = ih m

pub first-none : (ws : List (List Bool)) → All (λ w. is_code_word w ≡ true → ⊥) ws → first_code_word ws ≡ beyond
unfolding first_code_word
first-none [] a = refl
first-none (w ∷ ws) a = go (is_code_word w) refl (first-none ws a.1)
  where
    go : (t : Bool) → is_code_word w ≡ t → first_code_word ws ≡ beyond → cond t (corrected w) (first_code_word ws) ≡ beyond
    go true e ih = absurd (a.0 e)
    go false e ih = ih

pub first-code-word : (P : List Bool → Type 0) (ws : List (List Bool)) (c : List Bool) → All P ws → first_code_word ws ≡ corrected c → P c × (is_code_word c ≡ true)
unfolding first_code_word
first-code-word P [] c a e = absurd (true≢false (sym (ap is_found e)))
first-code-word P (w ∷ ws) c a e = go (is_code_word w) refl e (first-code-word P ws c a.1)
  where
    go : (t : Bool) → is_code_word w ≡ t → cond t (corrected w) (first_code_word ws) ≡ corrected c
        → (first_code_word ws ≡ corrected c → P c × (is_code_word c ≡ true)) → P c × (is_code_word c ≡ true)
    go true q e ih = let same : w ≡ c = ap found e in (subst P same a.0, subst (λ u. is_code_word u ≡ true) same q)
    go false q e ih = ih e

-- ---- the laws of decode

module _ (r : List Bool) (h : length r ≡ 187) where
  pub decode-none : ((c : List Bool) → CodeWord c → dist r c ≤ 8 → ⊥) → decode r ≡ beyond
  unfolding decode
  decode-none none =
      first-none (ball 8 r)
      (all_weaker (Within 8 r) (λ w. is_code_word w ≡ true → ⊥) (ball 8 r) (λ w n t. none w (tested-word w (n.0 ∙ h) t) n.1) (ball-within 8 r))

  pub decode-found : (c : List Bool) → CodeWord c → dist r c ≤ 8 → decode r ≡ corrected c
  unfolding decode
  decode-found c k d =
      first_found c (ball 8 r) (word-tested c k) (in-ball 8 r c (length-word c k ∙ sym h, d))
      (all_weaker (Within 8 r) (λ w. is_code_word w ≡ true → w ≡ c) (ball 8 r)
      (λ w n t. only_one w c (tested-word w (n.0 ∙ h) t) k r h n.1 d) (ball-within 8 r))

-- ---- so there is a code word within eight places, or there is none

pub data Nearest (r : List Bool) : Type 0 where
  one : (c : List Bool) → CodeWord c → dist r c ≤ 8 → Nearest r
  none : ((c : List Bool) → CodeWord c → dist r c ≤ 8 → ⊥) → Nearest r

pub nearest : (r : List Bool) → length r ≡ 187 → Nearest r
unfolding decode
nearest r h = go (decode r) refl
  where
    go : (d : Decoded) → decode r ≡ d → Nearest r
    go (corrected c) e =
        let n = first-code-word (Within 8 r) (ball 8 r) c (ball-within 8 r) e in
        one c (tested-word c (n.0.0 ∙ h) n.1) n.0.1
    go beyond e = none (λ c k d. true≢false (sym (ap is_found (decode-found r h c k d)) ∙ ap is_found e))
