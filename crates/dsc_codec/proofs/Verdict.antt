-- What the engine may answer: the received word, the word without its errors, or refusal 4. Assumes nothing.
use mathlib.Core.Path.{◌≡◌, refl, sym, ap, ap₂, ◌∙◌}
use mathlib.Core.Bool.{Bool, true, false}
use mathlib.Core.List.{List}
use mathlib.Core.Logic.{◌≢◌}
use Prim.Native.Nat.{ℕ, ◌+◌, ◌-◌, ◌%◌, ◌^◌, ◌<◌, ◌≤◌}
use native.Mathlib.Omega.{arith}
use lib.Bits.{bit_xor, bit_or, xor_lt}
use lib.Dec.{ltb}
use lib.ListN.{length, replicate}
use borrow.Author.Tests.{ltb-true, ltb-false}
use Rattle.std.specs.Prelude.{Some, None}
use Rattle.gf2.specs.Polynomial.{◌⊕◌, add}
use Rattle.gf2.proofs.Sum.{length-add, add-self}
use Rattle.lanes.proofs.Lanes.{lane_xor, none_left, none_right, none_both}
use Rattle.dsc.specs.Code.{weight, is_code_word}
use Rattle.dsc.specs.CheckTable.{syndrome}
use Rattle.dsc.specs.Majority.{flipped}
use Rattle.dsc.specs.Repair.{protected, repaired_to, refused_with, answer_to, decode, repair_of, left_in, Repairs}
use Rattle.dsc.specs.declared.Answer.{Answer}
use Rattle.dsc.specs.declared.Outcome.{Outcome}
use Rattle.dsc.proofs.Answers.{repair-decoded, repair-short, met, answered as by_cases}
use Rattle.dsc.proofs.Word.{word-tested, tested-word}
use Rattle.dsc.proofs.CheckRows.{syndrome-add, word_even}
use Rattle.dsc.proofs.EvenRows.{neighbours-word}
use Rattle.dsc.proofs.Distance.{dist_same}
use Rattle.dsc.proofs.Majority.{flipped-add, answer-found, answer-none}
use Rattle.dsc_words.specs.Words.{held}
use Rattle.dsc_words.specs.declared.Word.{Word}
use Rattle.dsc_words.proofs.Words.{length-held}
use Rattle.dsc_sums.specs.Sums.{Sums, AllSums}
use Rattle.dsc_errors.specs.Errors.{ErrorsOf, ManyErrors}
use Rattle.dsc_errors.specs.declared.ErrorWord.{ErrorWord}
use Rattle.dsc_codec.specs.Engine.{Finds}
use Rattle.dsc_codec.specs.declared.Nearest.{Nearest}

-- the sums of a sum
pub sums-add : {u w : List Bool} {s n x y : ℕ} → length u ≡ length w → Sums u s n x → Sums w s n y → Sums (add u w) s n (bit_xor x y)
sums-add {u} {w} {s} {n} {x} {y} l ex ey =
    record { each = λ i h. lane_xor x y i ∙ ap₂ ◌⊕◌ (ex.each i h) (ey.each i h) ∙ sym (syndrome-add u w (s + i) l) }

-- ---- rows 128 to 255 tell a code word

module _ (w : List Bool) (l : length w ≡ 187) {x y : ℕ} (sx : Sums w 128 64 x) (sy : Sums w 192 64 y) where
  pub even-tested : bit_or x y ≡ 0 → is_code_word w ≡ true
  even-tested e = word-tested w (neighbours-word w l 128 (omega arith) (λ j h. go j h (ltb j 64) refl))
    where
      go : (j : ℕ) → j < 82 → (t : Bool) → ltb j 64 ≡ t → syndrome w ((128 + j) % 273) ≡ false
      go j h true q =
          let m = ltb-true j 64 q in
          ap (syndrome w) (let z : (128 + j) % 273 ≡ 128 + j = omega arith in z) ∙ sym (sx.each j m) ∙ none_left x y e j
      go j h false q =
          let m = ltb-false j 64 q in
          ap (syndrome w) (let z : (128 + j) % 273 ≡ 192 + (j - 64) = omega arith in z) ∙ sym (sy.each (j - 64) (omega arith)) ∙ none_right x y e (j - 64)

  pub tested-even : x < 2 ^ 64 → y < 2 ^ 64 → is_code_word w ≡ true → bit_or x y ≡ 0
  tested-even fx fy t =
      let k = tested-word w l t in
      none_both x y fx fy (λ i h. sx.each i h ∙ word_even w k (128 + i) (omega arith)) (λ i h. sy.each i h ∙ word_even w k (192 + i) (omega arith))

  -- a word that needs no repair
  pub clean : bit_or x y ≡ 0 → repaired_to w 0 ≡ answer_to w (decode w)
  clean e = answer-found w l w 0 (even-tested e) l (sym (dist_same w)) (omega arith)

-- ---- the errors of the received word r, from its sums

-- e are the errors of the received word r, by the majority, n of them, and x and y are the sums of r on rows 128 to 255
pub record Located (r e : List Bool) (x y n : ℕ) : Type 0 where
  pub rows128 : Sums r 128 64 x
  pub rows192 : Sums r 192 64 y
  pub flips : flipped r r ≡ add r e
  pub places : n ≡ weight e
  pub few : n ≤ 8

module _ {r : List Bool} {a b c d f : ℕ} (lr : length r ≡ 187) (sums : AllSums r a b c d f) where
  pub located : (e : ErrorWord) → ErrorsOf a b c d f (held e.word) → Located r (held e.word) c d e.places
  located e k =
      record {
        rows128 = sums.rows128;
        rows192 = sums.rows192;
        flips = flipped-add r r (held e.word) (lr ∙ sym (length-held e.word)) (λ p h. sym (k.each r sums p (omega arith)));
        places = e.counted;
        few = e.few;
      }

  pub too_far : ManyErrors a b c d f → refused_with 4 ≡ answer_to r (decode r)
  too_far k = answer-none r lr (flipped r r) refl (λ t d. omega (arith, k.each r lr sums))

-- ---- the received word r without its errors e: g and h are the sums of the errors on rows 128 to 255

module _ {r e : List Bool} {c d n g h : ℕ} (lr : length r ≡ 187) (le : length e ≡ 187) (m : Located r e c d n) (theirs128 : Sums e 128 64 g) (theirs192 : Sums e 192 64 h) where
  length-mended : length (add r e) ≡ 187
  length-mended = length-add r e ∙ le

  left128 : Sums (add r e) 128 64 (bit_xor c g)
  left128 = sums-add (lr ∙ sym le) m.rows128 theirs128

  left192 : Sums (add r e) 192 64 (bit_xor d h)
  left192 = sums-add (lr ∙ sym le) m.rows192 theirs192

  pub no_word : bit_xor c g < 2 ^ 64 → bit_xor d h < 2 ^ 64 → bit_or (bit_xor c g) (bit_xor d h) ≢ 0 → refused_with 4 ≡ answer_to r (decode r)
  no_word fx fy ne = answer-none r lr (add r e) (sym m.flips) (λ t d. ne (tested-even (add r e) length-mended left128 left192 fx fy t))

  pub mended : bit_or (bit_xor c g) (bit_xor d h) ≡ 0 → repaired_to (add r e) n ≡ answer_to r (decode r)
  mended z =
      answer-found r lr (add r e) n (even-tested (add r e) length-mended left128 left192 z) length-mended (m.places ∙ sym (ap weight (add-self r e))) m.few

-- ---- the ways out of find, by the sums of the received word r

module _ (r : Word) {c d : ℕ} (rows128 : Sums (held r) 128 64 c) (rows192 : Sums (held r) 192 64 d) where
  pub code_word : bit_or c d ≡ 0 → repaired_to (held r) 0 ≡ answer_to (held r) (decode (held r))
  code_word z = clean (held r) (length-held r) rows128 rows192 z

  module _ {a b f : ℕ} (rows0 : Sums (held r) 0 64 a) (rows64 : Sums (held r) 64 64 b) (rows256 : Sums (held r) 256 17 f) where
    all_sums : AllSums (held r) a b c d f
    all_sums = record { rows0 = rows0; rows64 = rows64; rows128 = rows128; rows192 = rows192; rows256 = rows256 }

    pub many_errors : ManyErrors a b c d f → refused_with 4 ≡ answer_to (held r) (decode (held r))
    many_errors m = too_far (length-held r) all_sums m

    module _ (e : ErrorWord) (k : ErrorsOf a b c d f (held e.word)) {g h : ℕ} (theirs128 : Sums (held e.word) 128 64 g) (theirs192 : Sums (held e.word) 192 64 h) where
      pub other_sums : bit_or (bit_xor c g) (bit_xor d h) ≢ 0 → c < 2 ^ 64 → d < 2 ^ 64 → g < 2 ^ 64 → h < 2 ^ 64 → refused_with 4 ≡ answer_to (held r) (decode (held r))
      other_sums ne fc fd fg fh =
          no_word (length-held r) (length-held e.word) (located (length-held r) all_sums e k) theirs128 theirs192 (xor_lt 64 c g fc fg) (xor_lt 64 d h fd fh) ne

      pub same_sums : (m : Word) → held m ≡ add (held r) (held e.word) → bit_or (bit_xor c g) (bit_xor d h) ≡ 0
          → repaired_to (held m) e.places ≡ answer_to (held r) (decode (held r))
      same_sums m q z =
          ap (λ u. repaired_to u e.places) q
          ∙ mended (length-held r) (length-held e.word) (located (length-held r) all_sums e k) theirs128 theirs192 z

pub ruleset ways_out = (code_word, many_errors, other_sums, same_sums)

-- ---- the answer to the frame f

module _ (f : List ℕ) where
  pub short_frame : length f ≢ 26 → repair_of f ≡ refused_with 1
  short_frame h = repair-short f h

  answered : {r : List Bool} {a : Answer} → length f ≡ 26 → r ≡ protected f → a ≡ answer_to r (decode r) → repair_of f ≡ a
  answered l e q = repair-decoded f l (decode (protected f)) refl ∙ sym (q ∙ ap (λ r. answer_to r (decode r)) e)

  module _ (received : Word) (l : length f ≡ 26) (e : held received ≡ protected f) where
    pub word_found : (x : Nearest) → Finds (held received) (Some x) → repair_of f ≡ repaired_to (held x.word) x.places
    word_found x q = answered l e q

    pub no_word_found : Finds (held received) None → repair_of f ≡ refused_with 4
    no_word_found q = answered l e q

  -- a refusal has no word: the answer is its outcome and what it leaves of 26 clear bytes
  pub whole-answer : {o : Outcome} {w : List ℕ} → o ≡ (repair_of f).outcome → w ≡ left_in (repair_of f) (replicate 26 0)
      → Repairs f (record { outcome = o; word = w }) × (◌≡◌ {A = Answer} (record { outcome = o; word = w }) (repair_of f))
  whole-answer {o} {w} eo ew =
      met f (record { outcome = o; word = w })
      (ap₂ (λ o w. record { outcome = o; word = w }) eo ew
      ∙ by_cases f (λ (a : Answer). ◌≡◌ {A = Answer} (record { outcome = a.outcome; word = left_in a (replicate 26 0) }) a) (λ c n. refl) refl refl)

-- ---- what the goals of repair_into ask

pub ruleset answers = (short_frame, word_found, no_word_found)
