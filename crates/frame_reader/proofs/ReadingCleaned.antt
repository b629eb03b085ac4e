-- The frame with its damage repaired: the reference and the pattern put into the repaired word. Assumes nothing.
use mathlib.Core.Path.{◌≡◌, refl, sym, ap, ap₂, ◌∙◌}
use mathlib.Core.Bool.{Bool, true, false, cond}
use mathlib.Core.List.{List, ◌++◌}
use Prim.Native.Nat.{ℕ}
use lib.Dec.{eqb}
use lib.ListN.{length, drop, replicate}
use lib.Seq.{paste, drop-drop}
use borrow.Author.Tests.{eqb-true}
use Rattle.bits.specs.Bits.{bits, bytes, bits_of}
use Rattle.bits.specs.Field.{field_at, put_bits, within, put_of}
use Rattle.bits.proofs.Field.{bits-put_of, length-put_of}
use Rattle.gf2.specs.Polynomial.{zeros}
use Rattle.dsc.specs.Repair.{protected}
use Rattle.dsc.specs.Marks.{Marking, repair_by}
use Rattle.dsc.specs.declared.Answer.{Answer}
use Rattle.dsc.proofs.Answers.{length-word_bytes, bits-word_bytes, protected-word_bytes}
use Rattle.dsc.proofs.Word.{length-word}
use Rattle.sync_pattern.specs.Pattern.{pattern_word, fitting_pattern}
use Rattle.frame.specs.Fields.{record_from, with_origin}
use Rattle.frame.specs.Read.{sync_in, refusal_by, origin_in, contents_in, read_by, clean_by, cleaned_by}
use Rattle.frame_reader.specs.Examined.{examined_by, cleaned_from}
use Rattle.frame.specs.declared.Edition.{Edition}
use Rattle.frame.specs.declared.Tuner.{Tuner}
use Rattle.frame.specs.declared.Origin.{Origin}
use Rattle.frame.specs.declared.Record.{Record}
use Rattle.frame_reader.specs.declared.Examined.{Examined}
use Rattle.frame.specs.declared.Cleaned.{Cleaned}
use Rattle.frame.specs.declared.Reading.TheVariants.{Accepted, Refused}
use Rattle.frame.proofs.Bodies.{taken}
use Rattle.frame.proofs.Readings.{Judged, accepted-judged}

-- ---- 17 bits put in front

joined : (l : List Bool) (x y : ℕ) → paste (paste l 0 (bits_of 1 x) 1) 1 (bits_of 16 y) 16 ≡ bits_of 1 x ++ (bits_of 16 y ++ drop 17 l)
unfolding bits_of
joined l x y = ap (λ k. bits_of 1 x ++ (bits_of 16 y ++ k)) (drop-drop 16 1 l)

put_front : (w : List ℕ) (x y : ℕ) → length w ≡ 26 → put_of (put_of w 0 1 x) 1 16 y ≡ bytes 26 (bits_of 1 x ++ (bits_of 16 y ++ drop 17 (bits w)))
put_front w x y h =
    let s = put_of w 0 1 x in
    let ls : length s ≡ 26 = length-put_of w 0 1 x ∙ h in
    let first : bits s ≡ paste (bits w) 0 (bits_of 1 x) 1 = bits-put_of w 0 1 x (ap (λ n. within n 0 1) h) in
    ap (λ n. cond (within n 1 16) (bytes n (put_bits s 1 16 y)) s) ls
    ∙ ap (λ b. bytes 26 (paste b 1 (bits_of 16 y) 16)) first
    ∙ ap (bytes 26) (joined (bits w) x y)

-- ---- the word of an accepted frame, marked as q says

module _ (ed : Edition) (q : Marking) (f : List ℕ) (j : Judged ed q f) where
  word-length : length (repair_by q f).word ≡ 26
  word-length = ap (λ (a : Answer). length a.word) j.repaired ∙ length-word_bytes j.word

  after_front : drop 17 (bits (repair_by q f).word) ≡ protected (repair_by q f).word ++ zeros 4
  after_front =
      let l = length-word j.word j.code-word in
      rw (j.repaired, bits-word_bytes j.word l, protected-word_bytes j.word l)

  cleaned-bytes : (o : Origin) (r : Record) → r ≡ with_origin o (contents_in ed q f)
      → put_of (put_of (repair_by q f).word 0 1 r.reference) 1 16 (pattern_word r.pattern) ≡ clean_by q f
  unfolding clean_by record_from
  cleaned-bytes o r er =
      let a : r.reference ≡ field_at f 0 1 = ap (λ (k : Record). k.reference) er ∙ (taken _ _ _ _ _ _).reference in
      let b : r.pattern ≡ fitting_pattern (sync_in f) = ap (λ (k : Record). k.pattern) er ∙ (taken _ _ _ _ _ _).pattern in
      put_front (repair_by q f).word r.reference (pattern_word r.pattern) word-length
      ∙ rw (a, b, after_front)

-- ---- what was examined, cleaned

module _ (x : Examined) where
  pub none-cleaned : (n : ℕ) → x.reading ≡ Refused n → ◌≡◌ {A = Cleaned} (record { number = n; frame = replicate 26 0 }) (cleaned_from x)
  unfolding cleaned_from
  none-cleaned n e = λ i. cleaned_from (record { reading = sym e i; word = x.word })

  -- s holds the word with the reference put, g the pattern too
  pub put-cleaned : (r : Record) (d : ℕ) (s g : List ℕ) (y : ℕ) → x.reading ≡ Accepted r d
      → s ≡ put_of x.word 0 1 r.reference → y ≡ pattern_word r.pattern → g ≡ put_of s 1 16 y
      → ◌≡◌ {A = Cleaned} (record { number = 0; frame = g }) (cleaned_from x)
  unfolding cleaned_from
  put-cleaned r d s g y e es ey eg =
      ap (λ (b : List ℕ). record { number = 0; frame = b }) (eg ∙ ap₂ (λ (b : List ℕ) (n : ℕ). put_of b 1 16 n) es ey)
      ∙ (λ i. cleaned_from (record { reading = sym e i; word = x.word }))

pub cleaned-examined : (ed : Edition) (q : Marking) (t : Tuner) (f : List ℕ) → cleaned_from (examined_by ed q t f) ≡ cleaned_by ed q f
unfolding cleaned_from examined_by read_by cleaned_by
cleaned-examined ed q t f = go (eqb (refusal_by ed q f) 0) refl
  where
    go : (b : Bool) → eqb (refusal_by ed q f) 0 ≡ b → cleaned_from (examined_by ed q t f) ≡ cleaned_by ed q f
    go true y =
        let z = eqb-true (refusal_by ed q f) 0 y in
        let k = cleaned-bytes ed q f (accepted-judged ed q f z) (origin_in ed q t f) (with_origin (origin_in ed q t f) (contents_in ed q f)) refl in
        rw (y, z) (ap (λ (b : List ℕ). record { number = 0; frame = b }) k)
    go false y = rw y refl
