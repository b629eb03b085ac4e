-- A report read line by line. Assumes nothing.
use mathlib.Core.Path.{◌≡◌, refl, sym, ap, ap₂, ◌∙◌}
use mathlib.Core.Bool.{Bool, true, false, cond}
use mathlib.Core.List.{List, [], ◌∷◌, ◌++◌, append-nil}
use Rattle.std.specs.Prelude.{Option, Some, None}
use Prim.Native.Nat.{ℕ, suc, ◌+◌, ◌<◌, ◌≤◌}
use native.Mathlib.Numerals.{add-one}
use native.Mathlib.Omega.{arith}
use lib.Dec.{eqb}
use lib.ListN.{length, take, drop, get_or, set, length-set, length-drop, drop_of_length-le, get_or-eq_default}
use Rattle.std.proofs.lemmas.List.{get_or-drop}
use lib.Pointwise.{pointwise}
use Rattle.std.specs.Bool.{then_some}
use lib.Seq.{drop-cons, take_all, take-suc-set, append_snoc}
use borrow.Author.Tests.{eq-eqb, ne_eqb}
use Rattle.decimals.specs.Reading.{number as number_of, starts_with, decimal_at}
use Rattle.decimals.specs.declared.Number.{Number}
use Rattle.decimals.proofs.Readings.{starts-equal, starts-unequal}
use Rattle.ledger.specs.Counting.{possible}
use Rattle.ledger.specs.Report.{labels, line_ended, line_at, in_front, line_then, numbers_in, ledger_from, not_report, parsed_from, parse_of}
use Rattle.ledger.specs.declared.Ledger.{Ledger}
use Rattle.ledger.specs.declared.LedgerAnswer.{LedgerAnswer}
use Rattle.ledger.proofs.Reports.{line-is}

-- ---- a label

-- l is stripped from t. That t is all of the text, and l all of the label, are premises: where a body looks at a part alone, one of them is left to prove.
module _ (label s l t : List ℕ) where
  pub starts_with-stripped : pointwise eqb (take (length l) t) l ≡ true → t ≡ s → l ≡ label → starts_with label s ≡ true
  starts_with-stripped e text all = rw (sym text, sym all) (starts-equal l t e)

  pub starts_with-not_stripped : pointwise eqb (take (length l) t) l ≡ false → t ≡ s → l ≡ label → starts_with label s ≡ false
  starts_with-not_stripped e text all = rw (sym text, sym all) (starts-unequal l t e)

  pub behind-stripped : (behind : List ℕ) → behind ≡ drop (length l) t → t ≡ s → l ≡ label → behind ≡ drop (length label) s
  behind-stripped behind e text all = e ∙ ap₂ (λ x y. drop (length x) y) all text

pub ruleset by_label = (starts_with-stripped, starts_with-not_stripped, behind-stripped, take_all)

-- ---- a line

pub line-other-label : (label s : List ℕ) → starts_with label s ≡ false → line_at label s ≡ None
unfolding line_at
line-other-label label s e = rw e

-- the text begins with the label
module _ (label s : List ℕ) (starts : starts_with label s ≡ true) where
  line-behind : (f : Option Number) → decimal_at (drop (length label) s) ≡ f → line_at label s ≡ line_ended (length label) s f
  unfolding line_at
  line-behind f e = rw (starts, e)

  pub line-no-number : decimal_at (drop (length label) s) ≡ None → line_at label s ≡ None
  unfolding line_ended
  line-no-number e = line-behind None e

  -- and then a number stands
  module _ (n : Number) (number : decimal_at (drop (length label) s) ≡ Some n) where
    pub line-no-end : length (drop (length label) s) ≤ n.bytes → line_at label s ≡ None
    unfolding line_ended
    line-no-end e = line-behind (Some n) number ∙ rw (get_or-eq_default s 0 {n = length label + n.bytes} (omega (arith, length-drop (length label) s)))

    -- and then what stands behind it is a line feed, or not
    pub line-end : (b : Bool) → b ≡ eqb (get_or (drop (length label) s) n.bytes 0) 10
        → line_at label s ≡ cond b (number_of n.value (length label + n.bytes + 1)) None
    unfolding line_ended
    line-end b e = line-behind (Some n) number ∙ rw (e, get_or-drop (length label) s n.bytes 0) refl

    pub line-found : get_or (drop (length label) s) n.bytes 0 ≡ 10 → number_of n.value (length label + n.bytes + 1) ≡ line_at label s
    line-found e = sym (line-end true (sym (eq-eqb _ 10 e)))

    pub line-no-feed : (get_or (drop (length label) s) n.bytes 0 ≡ 10 → ⊥) → None ≡ line_at label s
    line-no-feed e = sym (line-end false (sym (ne_eqb _ 10 e)))

pub ruleset by_line = (line-other-label, line-no-number, line-no-end)

-- ---- line by line

-- numbers in front of others
abbrev pub prefixed : List ℕ → Option (List ℕ) → Option (List ℕ)
prefixed ns None = None
prefixed ns (Some ms) = Some (ns ++ ms)

prefixed-more : (ns : List ℕ) (n : ℕ) (o : Option (List ℕ)) → prefixed ns (in_front n o) ≡ prefixed (ns ++ n ∷ []) o
prefixed-more ns n None = refl
prefixed-more ns n (Some ms) = ap Some (sym (append_snoc ns n ms))

-- the first i numbers are read, and what stands behind their lines is left
pub record Numbered (ls : List (List ℕ)) (s ns rest : List ℕ) (i : ℕ) : Type 0 where
  pub size : length ns ≡ length ls
  pub left : numbers_in ls s ≡ prefixed (take i ns) (numbers_in (drop i ls) rest)

pub numbered-none : (ls : List (List ℕ)) (s ns : List ℕ) → length ns ≡ length ls → Numbered ls s ns s 0
numbered-none ls s ns e = record { size = e; left = go (numbers_in ls s) }
  where
    go : (o : Option (List ℕ)) → o ≡ prefixed [] o
    go None = refl
    go (Some ms) = refl

module _ {ls : List (List ℕ)} {s ns rest : List ℕ} {i : ℕ} (w : Numbered ls s ns rest i) where
  -- line i, and those behind it
  numbered-line : (f : Option Number) → i < length ls → f ≡ line_at (get_or ls i []) rest
      → numbers_in ls s ≡ prefixed (take i ns) (line_then f (λ k. numbers_in (drop (i + 1) ls) (drop k rest)))
  unfolding numbers_in
  numbered-line f h e =
      w.left
      ∙ ap (prefixed (take i ns))
      (ap (λ x. numbers_in x rest) (drop-cons ls i [] h)
      ∙ ap (λ g. line_then g (λ k. numbers_in (drop (suc i) ls) (drop k rest))) (sym e)
      ∙ (λ j. line_then f (λ k. numbers_in (drop (sym (add-one i) j) ls) (drop k rest))))

  pub numbered-stop : i < length ls → None ≡ line_at (get_or ls i []) rest → None ≡ numbers_in ls s
  numbered-stop h e = sym (numbered-line None h e)

  -- a line is within what is left
  pub line-inside : (n : Number) → Some n ≡ line_at (get_or ls i []) rest → n.bytes ≤ length rest
  line-inside n e = (line-is (get_or ls i []) rest n.value n.bytes (sym e)).inside

  pub numbered_next : (n : Number) → i < length ls → Some n ≡ line_at (get_or ls i []) rest
      → Numbered ls s (set ns i n.value) (drop n.bytes rest) (i + 1)
  numbered_next n h e =
      let behind = numbers_in (drop (i + 1) ls) (drop n.bytes rest) in
      let here : take (i + 1) (set ns i n.value) ≡ take i ns ++ n.value ∷ [] = rw add-one (take-suc-set ns i n.value (omega (arith, w.size))) in
      record {
        size = length-set ns i n.value ∙ w.size;
        left = numbered-line (Some n) h e ∙ prefixed-more (take i ns) n.value behind ∙ ap (λ x. prefixed x behind) (sym here);
      }

  -- the numbers of all lines, if nothing is left
  pub numbered-all : (b : Bool) → b ≡ eqb (length rest) 0 → length ls ≤ i → then_some b ns ≡ numbers_in ls s
  unfolding numbers_in
  numbered-all b e h = go rest (ap (λ t. numbers_in t rest) (drop_of_length-le ls {i = i} h)) b e
    where
      all : take i ns ≡ ns
      all = take_all i ns (omega (arith, w.size))

      go : (r : List ℕ) → numbers_in (drop i ls) rest ≡ numbers_in [] r → (b : Bool) → b ≡ eqb (length r) 0 → then_some b ns ≡ numbers_in ls s
      go [] n b e = rw e (sym (w.left ∙ ap (prefixed (take i ns)) n ∙ ap Some (append-nil (take i ns) ∙ all)))
      go (x ∷ r) n b e = rw (e, ne_eqb (suc (length r)) 0 (λ z. omega arith)) (sym (w.left ∙ ap (prefixed (take i ns)) n))

-- ---- the answer

pub parse-none : (s : List ℕ) → None ≡ numbers_in labels s → not_report ≡ parse_of s
unfolding parse_of
parse-none s e = ap parsed_from e

module _ (s ns : List ℕ) (l : Ledger) (read : Some ns ≡ numbers_in labels s) (ledger : l ≡ ledger_from ns) where
  judged : (t : Bool) → possible l ≡ t → cond t (record { number = 0; ledger = l }) not_report ≡ parse_of s
  unfolding parse_of
  judged t e =
      ap (λ u. cond u (record { number = 0; ledger = l }) not_report) (sym e)
      ∙ ap (λ m. cond (possible m) (record { number = 0; ledger = m }) not_report) ledger
      ∙ ap parsed_from read

  pub parse-impossible : possible l ≡ false → not_report ≡ parse_of s
  parse-impossible e = judged false e

  pub parse-ledger : possible l ≡ true → ◌≡◌ {A = LedgerAnswer} (record { number = 0; ledger = l }) (parse_of s)
  parse-ledger e = judged true e
