-- The worked examples of the repair hold. Assumes nothing.
use mathlib.Core.Path.{◌≡◌, refl, sym, ap, ◌∙◌}
use mathlib.Core.Bool.{Bool, true, false, false≢true, ◌&&◌}
use mathlib.Core.List.{List, [], ◌∷◌}
use Prim.Native.Nat.{ℕ, ◌+◌, ◌≤◌}
use native.Mathlib.Nat.{suc_inj}
use native.Mathlib.Omega.{arith}
use lib.Dec.{eqb, T, eqb→eq}
use lib.Ieee.Bits.{is_true}
use lib.ListN.{length}
use Rattle.bits.specs.Bits.{digit}
use Rattle.bits.proofs.Computed.{and_left, and_right, below, below_at}
use Rattle.gf2.specs.Polynomial.{zeros, add, scale, poly, member, remainder}
use Rattle.gf2.proofs.Sum.{add-to-zeros}
use Rattle.dsc.specs.Code.{powers, generator_low, CodeWord, weight, dist, all_zero, is_code_word}
use Rattle.dsc.specs.Repair.{protected, word_bytes, repaired_to, refused_with, repair_of}
use Rattle.dsc.specs.Promises.{HitWord}
use Rattle.dsc.specs.Worked.{generator_word, among, first_places, SomePlaces, Worked}
use Rattle.dsc.proofs.Word.{length-word, tested-word}
use Rattle.dsc.proofs.Distance.{dist_same}
use Rattle.dsc.proofs.Answers.{length-protected, length-word_bytes, protected-word_bytes, repair-found, repair-none}
use Rattle.dsc.proofs.BeyondEight.{from-sent, from-other}

pub zero_word : CodeWord (zeros 187)
unfolding is_code_word all_zero remainder add scale generator_low powers poly member
zero_word = tested-word (zeros 187) refl refl

generator-word : CodeWord generator_word
unfolding is_code_word all_zero remainder add scale generator_low generator_word powers poly member
generator-word = tested-word generator_word refl refl

generator-ones : weight generator_word ≡ 18
unfolding generator_word powers poly member digit
generator-ones = refl

-- from the generator, in those of its places that are not set
from-among : (r w : List Bool) → length r ≡ length w → among r w ≡ true → dist r w + weight r ≡ weight w
unfolding add among digit
from-among [] [] h e = refl
from-among [] (b ∷ w) h e = absurd (omega arith)
from-among (a ∷ r) [] h e = absurd (omega arith)
from-among (true ∷ r) (true ∷ w) h e = omega (arith, from-among r w (suc_inj h) e)
from-among (true ∷ r) (false ∷ w) h e = absurd (false≢true e)
from-among (false ∷ r) (true ∷ w) h e = omega (arith, from-among r w (suc_inj h) e)
from-among (false ∷ r) (false ∷ w) h e = omega (arith, from-among r w (suc_inj h) e)

example1-clean : (f : List ℕ) → length f ≡ 26 → protected f ≡ zeros 187 → repair_of f ≡ repaired_to (zeros 187) 0
example1-clean f h e =
    let d : dist (protected f) (zeros 187) ≡ 0 = ap (λ r. dist r (zeros 187)) e ∙ dist_same (zeros 187) in
    repair-found f h (zeros 187) zero_word (omega arith) ∙ ap (repaired_to (zeros 187)) d

-- the zero word, hit in the set places
zero-hits : {n : ℕ} (f : List ℕ) → SomePlaces n f → HitWord n (zeros 187) (protected f) f
zero-hits f s =
    let l : length (protected f) ≡ 187 = length-protected f s.size in
    record {
      size = s.size;
      sent = zero_word;
      places = l;
      number = s.number;
      received = sym (ap (λ n. add (protected f) (zeros n)) (sym l) ∙ add-to-zeros (protected f));
    }

example3 : (f : List ℕ) → SomePlaces 8 f → repair_of f ≡ repaired_to (zeros 187) 8
example3 f s =
    let d : dist (protected f) (zeros 187) ≡ 8 = from-sent (zero-hits f s) in
    repair-found f s.size (zeros 187) zero_word (omega arith) ∙ ap (repaired_to (zeros 187)) d

-- the first places are among the generator's, and as many as asked for
places-test : T (below 19 (λ n. eqb (weight (first_places n)) n && among (first_places n) generator_word))
unfolding below first_places generator_word powers poly member among digit
places-test = tt

length-first_places : (n : ℕ) → length (first_places n) ≡ 187
unfolding first_places poly
length-first_places n = refl

example3-some : (n : ℕ) → n ≤ 18 → SomePlaces n (word_bytes (first_places n))
example3-some n h =
    let e : List Bool = first_places n in
    let r : protected (word_bytes e) ≡ e = protected-word_bytes e (length-first_places n) in
    let t : T (eqb (weight e) n && among e generator_word) = below_at 19 (λ n. eqb (weight (first_places n)) n && among (first_places n) generator_word) places-test n (omega arith) in
    record {
      size = length-word_bytes e;
      places = ap (λ w. among w generator_word) r ∙ is_true (among e generator_word) (and_right (eqb (weight e) n) (among e generator_word) t);
      number = ap weight r ∙ eqb→eq (weight e) n (and_left (eqb (weight e) n) (among e generator_word) t);
    }

example4 : (f : List ℕ) → SomePlaces 9 f → repair_of f ≡ refused_with 4
example4 f s = repair-none f s.size (λ c k d. omega (arith, from-other (zero-hits f s) (omega arith) c k d))

example5 : (f : List ℕ) → SomePlaces 10 f → repair_of f ≡ repaired_to generator_word 8
example5 f s =
    let r = protected f in
    let l : length r ≡ length generator_word = length-protected f s.size ∙ sym (length-word generator_word generator-word) in
    let d : dist r generator_word ≡ 8 = omega (arith, from-among r generator_word l s.places, s.number, generator-ones) in
    repair-found f s.size generator_word generator-word (omega arith) ∙ ap (repaired_to generator_word) d

pub worked : Worked
worked =
    record {
      example1 = zero_word;
      example1-clean = example1-clean;
      example2 = generator-word;
      example2-ones = generator-ones;
      example3 = example3;
      example3-some = λ n h. example3-some n (omega arith);
      example4 = example4;
      example5 = example5;
    }
