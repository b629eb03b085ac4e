-- The promises hold. Assumes nothing.
use mathlib.Core.Path.{◌≡◌, refl, sym, ap, ◌∙◌}
use mathlib.Core.Bool.{Bool, true, false}
use mathlib.Core.Logic.{◌≢◌}
use mathlib.Core.List.{List}
use Prim.Native.Nat.{ℕ, ◌≤◌}
use native.Mathlib.Omega.{arith}
use lib.Dec.{eqb}
use lib.ListN.{length}
use borrow.Author.Tests.{eqb-true, eqb-false}
use Rattle.bits.specs.Bits.{digit}
use Rattle.gf2.specs.Polynomial.{zeros, member, poly, add}
use Rattle.gf2.proofs.Sum.{length-add, add-to-zeros}
use Rattle.dsc.specs.Code.{powers, CodeWord, weight, dist}
use Rattle.dsc.specs.Repair.{protected, word_bytes, decode, repaired_to, answer_to, number_of, repair_of}
use Rattle.dsc.specs.Worked.{generator_word, among, first_places}
use Rattle.dsc.specs.Promises.{NoneWithinEight, Demand3, HitWord, first_ten, BeyondEight, CodeLaws}
use Rattle.dsc.proofs.Word.{length-word, parity-word, parity-only}
use Rattle.dsc.proofs.CheckRows.{word_even}
use Rattle.dsc.proofs.TableRows.{table-row}
use Rattle.dsc.proofs.Incidence.{on-seventeen, share-one}
use Rattle.dsc.proofs.EvenRows.{even-word}
use Rattle.dsc.proofs.Distance.{dist-hit, dist_same, distance18, only_one}
use Rattle.dsc.proofs.Encoding.{encoded-word, encoded-message, encoded-only}
use Rattle.dsc.proofs.Answers.{length-word_bytes, protected-word_bytes, repair-short, repair-decoded, repair-found, repair-none, repairs, repairs-only}
use Rattle.dsc.proofs.BeyondEight.{held, refused-or-wrong, counted, only-refused, zero-hit, ten-refused}
use Rattle.dsc.proofs.Worked.{worked}

gives-sent-word : (f : List ℕ) (c e : List Bool) → length f ≡ 26 → CodeWord c → length e ≡ 187 → weight e ≤ 8
    → protected f ≡ add e c → repair_of f ≡ repaired_to c (weight e)
gives-sent-word f c e h k l w p =
    let d : dist (protected f) c ≡ weight e = ap (λ r. dist r c) p ∙ dist-hit e c (l ∙ sym (length-word c k)) in
    repair-found f h c k (omega arith) ∙ ap (repaired_to c) d

never-alike : (c d e h : List Bool) → CodeWord c → CodeWord d → c ≢ d → length e ≡ 187 → length h ≡ 187 → weight e ≤ 8 → weight h ≤ 8
    → add e c ≢ add h d
never-alike c d e h kc kd ne le lh we wh same =
    let hc : dist (add e c) c ≡ weight e = dist-hit e c (le ∙ sym (length-word c kc)) in
    let hd : dist (add e c) d ≡ weight h = ap (λ r. dist r d) same ∙ dist-hit h d (lh ∙ sym (length-word d kd)) in
    ne (only_one c d kc kd (add e c) (length-sum e c kc) (omega arith) (omega arith))
  where
    length-sum : (e c : List Bool) → CodeWord c → length (add e c) ≡ 187
    length-sum e c k = length-add e c ∙ length-word c k

short-if-refused : (f : List ℕ) → number_of (repair_of f) ≡ 1 → length f ≢ 26
short-if-refused f e h = (repairs f).long h e

none-if-refused : (f : List ℕ) → number_of (repair_of f) ≡ 4 → (length f ≡ 26) × NoneWithinEight (protected f)
none-if-refused f e = go (eqb (length f) 26) refl
  where
    go : (t : Bool) → eqb (length f) 26 ≡ t → (length f ≡ 26) × NoneWithinEight (protected f)
    go true q =
        let h = eqb-true (length f) 26 q in
        (h, λ c k d. let z : ◌≡◌ {A = ℕ} 0 4 = sym (ap number_of (repair-found f h c k d)) ∙ e in omega arith)
    go false q = let z : ◌≡◌ {A = ℕ} 1 4 = sym (ap number_of (repair-short f (eqb-false (length f) 26 q))) ∙ e in absurd (omega arith)

repaired-is-clean : (c : List Bool) → CodeWord c → repair_of (word_bytes c) ≡ repaired_to c 0
repaired-is-clean c k =
    let d : dist (protected (word_bytes c)) c ≡ 0 = ap (λ r. dist r c) (protected-word_bytes c (length-word c k)) ∙ dist_same c in
    repair-found (word_bytes c) (length-word_bytes c) c k (omega arith) ∙ ap (repaired_to c) d

pub demand3 : Demand3
demand3 =
    record {
      answers = repairs;
      settled = repairs-only;
      gives-sent-word = gives-sent-word;
      only_one = λ r c d h kc kd hc hd. only_one c d kc kd r h hc hd;
      never-alike = never-alike;
      refused-if-none = λ f h n. ap number_of (repair-none f h n);
      none-if-refused = none-if-refused;
      short-if-refused = short-if-refused;
      looks-only = λ f g hf hg e.
          repair-decoded f hf (decode (protected f)) refl ∙ ap (λ r. answer_to r (decode r)) e ∙ sym (repair-decoded g hg (decode (protected g)) refl);
      repaired-is-clean = repaired-is-clean;
    }

ten-wrong : (f : List ℕ) (e : List Bool) → HitWord 10 (zeros 187) e f → among e generator_word ≡ true → repair_of f ≡ repaired_to generator_word 8
ten-wrong f e h a =
    let r : protected f ≡ e = zero-hit h in
    worked.example5 f (record { size = h.size; places = ap (λ w. among w generator_word) r ∙ a; number = ap weight r ∙ h.number })

-- the zero word, hit in the places of e
zero_held : (n : ℕ) (e : List Bool) → length e ≡ 187 → weight e ≡ n → HitWord n (zeros 187) e (word_bytes e)
zero_held n e l w =
    record {
      size = length-word_bytes e;
      sent = worked.example1;
      places = l;
      number = w;
      received = protected-word_bytes e l ∙ sym (ap (λ n. add e (zeros n)) (sym l) ∙ add-to-zeros e);
    }

ten-wrong-some : HitWord 10 (zeros 187) (first_places 10) (word_bytes (first_places 10)) × (among (first_places 10) generator_word ≡ true)
unfolding first_places generator_word powers poly member among digit
ten-wrong-some = (zero_held 10 (first_places 10) refl refl, refl)

ten-refused-some : HitWord 10 (zeros 187) first_ten (word_bytes first_ten)
unfolding first_ten digit
ten-refused-some = zero_held 10 first_ten refl refl

pub beyond-eight : BeyondEight
beyond-eight =
    record {
      held = held;
      nine-or-more = λ n l f c e h. counted (λ m hi lo. omega arith) (refused-or-wrong h (omega arith));
      nine = λ f c e h. only-refused (λ m hi lo. omega arith) (refused-or-wrong h (omega arith));
      ten = λ f c e h. counted (λ m hi lo. omega arith) (refused-or-wrong h (omega arith));
      ten-wrong = ten-wrong;
      ten-wrong-some = ten-wrong-some;
      ten-refused = ten-refused;
      ten-refused-some = ten-refused-some;
    }

pub code_laws : CodeLaws
code_laws =
    record {
      distance = distance18;
      table-row = table-row;
      even = word_even;
      rows-decide = even-word;
      seventeen-rows = on-seventeen;
      one-shared-row = share-one;
      encoded = parity-word;
      encoded-only = λ m p h l k. parity-only m h p l k;
      frame-encoded = encoded-word;
      frame-message = encoded-message;
      frame-only = λ f w h k e. encoded-only f h w k e;
    }
