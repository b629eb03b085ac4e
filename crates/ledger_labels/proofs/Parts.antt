-- The labels in their text: where each of them stands. Assumes nothing.
use mathlib.Core.Path.{◌≡◌, refl, ap, ◌∙◌}
use mathlib.Core.List.{List, [], ◌∷◌, ◌++◌, flatten}
use Prim.Native.Nat.{ℕ, zero, suc, ◌+◌, ◌-◌, ◌<◌, ◌≤◌}
use native.Mathlib.Numerals.{add-one}
use native.Mathlib.Omega.{arith}
use lib.ListN.{length, take, drop, get_or, length-append}
use lib.Seq.{take_at, drop-append-add}
use Rattle.ledger.specs.Report.{labels}
use Rattle.ledger.proofs.Reports.{twelve-labels}
use Rattle.ledger_labels.specs.Labels.{label_text, label_start}

-- ---- any texts, end to end

text_at : (ts : List (List ℕ)) (i : ℕ) → i < length ts → take (length (get_or ts i [])) (drop (length (flatten (take i ts))) (flatten ts)) ≡ get_or ts i []
unfolding flatten
text_at [] i h = absurd (omega arith)
text_at (t ∷ ts) zero h = take_at t (flatten ts) (length t) refl
text_at (t ∷ ts) (suc i) h =
    ap (λ (n : ℕ). take (length (get_or ts i [])) (drop n (t ++ flatten ts))) (length-append t (flatten (take i ts)))
    ∙ ap (take (length (get_or ts i []))) (drop-append-add t (flatten ts) (length (flatten (take i ts))))
    ∙ text_at ts i (omega arith)

start-next : (ts : List (List ℕ)) (i : ℕ) → i < length ts → length (flatten (take (suc i) ts)) ≡ length (flatten (take i ts)) + length (get_or ts i [])
unfolding flatten
start-next [] i h = absurd (omega arith)
start-next (t ∷ ts) zero h = omega (arith, length-append t [])
start-next (t ∷ ts) (suc i) h =
    omega (arith, length-append t (flatten (take (suc i) ts)), length-append t (flatten (take i ts)), start-next ts i (omega arith))

start-within : (ts : List (List ℕ)) (i : ℕ) → length (flatten (take i ts)) ≤ length (flatten ts)
unfolding flatten
start-within [] zero = omega arith
start-within [] (suc i) = omega arith
start-within (t ∷ ts) zero = omega arith
start-within (t ∷ ts) (suc i) = omega (arith, length-append t (flatten (take i ts)), length-append t (flatten ts), start-within ts i)

-- ---- the labels

pub length-text : length label_text ≡ 113
unfolding label_text labels flatten
length-text = refl

-- label i stands from s to e
module _ {i s e : ℕ} (h : i < 12) (from : s ≡ label_start i) (to : e ≡ label_start (i + 1)) where
  label-size : e ≡ s + length (get_or labels i [])
  unfolding label_start
  label-size =
      let next : label_start (i + 1) ≡ label_start i + length (get_or labels i []) = rw add-one (start-next labels i (omega (arith, twelve-labels))) in
      omega (arith, from, to)

  pub label-order : s ≤ e
  label-order = omega (arith, label-size)

  pub label_inside : e ≤ 113
  unfolding label_start label_text
  label_inside = omega (arith, start-within labels (i + 1), length-text)

  pub label-part : (text : List ℕ) → text ≡ label_text → take (e - s) (drop s text) ≡ get_or labels i []
  unfolding label_start label_text
  label-part text t =
      let size : e - s ≡ length (get_or labels i []) = omega (arith, label-size) in
      rw (t, size, from) (text_at labels i (omega (arith, twelve-labels)))

-- ---- a row of the places where they begin

abbrev pub starts_from : (i n : ℕ) → List ℕ
starts_from i zero = []
starts_from i (suc n) = label_start i ∷ starts_from (suc i) n

starts-from : (i n j : ℕ) → j < n → get_or (starts_from i n) j 0 ≡ label_start (i + j)
starts-from i zero j h = absurd (omega arith)
starts-from i (suc n) zero h = let e : i + 0 ≡ i = omega arith in rw e
starts-from i (suc n) (suc j) h = let e : suc i + j ≡ i + suc j = omega arith in starts-from (suc i) n j (omega arith) ∙ ap label_start e

pub start-in : (starts : List ℕ) → starts ≡ starts_from 0 13 → (i : ℕ) → i ≤ 12 → get_or starts i 0 ≡ label_start i
start-in starts e i h = let z : 0 + i ≡ i = omega arith in ap (λ (s : List ℕ). get_or s i 0) e ∙ starts-from 0 13 i (omega arith) ∙ ap label_start z
