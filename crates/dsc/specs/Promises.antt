-- What this crate promises, in the words of demand 3 and of document 02, d). Each record has one value, proved in proofs/Promises.antt and
-- proofs/DoubtfulMarks.antt.
-- Assumes nothing.
use Rattle.std.specs.Prelude.{◌≡◌, Bool, true, false, ◌&&◌, ◌≢◌, ◌⊎◌, List, ◌++◌, ℕ, ◌+◌, ◌*◌, ◌≤◌, ◌<◌, length, take, replicate}
use Rattle.gf2.specs.Polynomial.{zeros, member, add}
use Rattle.dsc.specs.Code.{CodeWord, count, weight, dist, parity_of}
use Rattle.dsc.specs.CheckTable.{row, CheckTable, row_at, upto, syndrome}
use Rattle.dsc.specs.Repair.{protected, word_bytes, repaired_to, refused_with, number_of, repair_of, Repairs, ball}
use Rattle.dsc.specs.Marks.{unmarked_in, unmarked_dist, Few, marked_ball, marked_repair_of}
use Rattle.dsc.specs.Encoding.{message_of, encode_of}
use Rattle.dsc.specs.Worked.{generator_word, among, first_places}
use Rattle.dsc.specs.declared.Answer.{Answer}

-- no code word differs from r in eight places or fewer
abbrev pub NoneWithinEight : List Bool → Type 0
NoneWithinEight r = (c : List Bool) → CodeWord c → dist r c ≤ 8 → ⊥

pub record Demand3 : Type 0 where
  -- whatever bytes arrive, the answer is as demand 3 asks, and no other answer is
  pub answers : (f : List ℕ) → Repairs f (repair_of f)
  pub settled : (f : List ℕ) (a : Answer) → Repairs f a → a ≡ repair_of f
  -- whichever code word c was sent, and whichever eight places e or fewer of it were hit: the sent word and the number of places hit
  pub gives-sent-word : (f : List ℕ) (c e : List Bool) → length f ≡ 26 → CodeWord c → length e ≡ 187 → weight e ≤ 8
      → protected f ≡ add e c → repair_of f ≡ repaired_to c (weight e)
  -- at most one code word lies within eight places
  pub only_one : (r c d : List Bool) → length r ≡ 187 → CodeWord c → CodeWord d → dist r c ≤ 8 → dist r d ≤ 8 → c ≡ d
  -- two different sent words, each hit in at most eight places, never arrive alike
  pub never-alike : (c d e h : List Bool) → CodeWord c → CodeWord d → c ≢ d → length e ≡ 187 → length h ≡ 187 → weight e ≤ 8 → weight h ≤ 8
      → add e c ≢ add h d
  -- refusal 4 exactly when there is none, refusal 1 exactly when the frame is not 26 bytes
  pub refused-if-none : (f : List ℕ) → length f ≡ 26 → NoneWithinEight (protected f) → number_of (repair_of f) ≡ 4
  pub none-if-refused : (f : List ℕ) → number_of (repair_of f) ≡ 4 → (length f ≡ 26) × NoneWithinEight (protected f)
  pub short-if-refused : (f : List ℕ) → number_of (repair_of f) ≡ 1 → length f ≢ 26
  -- only B17 to B203 are looked at
  pub looks-only : (f g : List ℕ) → length f ≡ 26 → length g ≡ 26 → protected f ≡ protected g → repair_of f ≡ repair_of g
  -- a word that was repaired needs no repair
  pub repaired-is-clean : (c : List Bool) → CodeWord c → repair_of (word_bytes c) ≡ repaired_to c 0

-- ---- more than eight hits

-- the frame f has 26 bytes and holds the code word c, hit in the places of e, which are n
pub record HitWord (n : ℕ) (c e : List Bool) (f : List ℕ) : Type 0 where
  pub size : length f ≡ 26
  pub sent : CodeWord c
  pub places : length e ≡ 187
  pub number : weight e ≡ n
  pub received : protected f ≡ add e c

-- where c was sent, the answer a is refusal 4, or a code word that is not c, with a count of at most eight of which P holds
pub data RefusedOrWrong (P : ℕ → Type 0) (c : List Bool) (a : Answer) : Type 0 where
  refused : a ≡ refused_with 4 → RefusedOrWrong P c a
  wrong : (d : List Bool) (m : ℕ) → CodeWord d → d ≢ c → P m → m ≤ 8 → a ≡ repaired_to d m → RefusedOrWrong P c a

-- whichever code word was sent, and whichever n places of it were hit: what is then true of it and the answer
abbrev pub AfterHits : ℕ → (List Bool → Answer → Type 0) → Type 0
AfterHits n Q = (f : List ℕ) (c e : List Bool) → HitWord n c e f → Q c (repair_of f)

-- B17 to B26
unfoldable pub first_ten : List Bool
first_ten = replicate 10 true ++ zeros 177

pub record BeyondEight : Type 0 where
  -- every code word, hit in any places, is held by a frame: no line below speaks of nothing
  pub held : (c e : List Bool) → CodeWord c → length e ≡ 187 → HitWord (weight e) c e (word_bytes (add e c))
  -- nine hits or more, n of them: refusal 4, or a word that is not the sent one, whose count m makes at least 18 with the hits. So a wrong word has at
  -- 11 hits a count of at least 7, at 12 of 6, at 13 of 5, at 14 of 4, at 15 of 3, at 16 of 2, at 17 of 1
  pub nine-or-more : (n : ℕ) → 9 ≤ n → AfterHits n (RefusedOrWrong (λ m. 18 ≤ n + m))
  -- at nine, then: always refusal 4, since no count is 9
  pub nine : AfterHits 9 (λ c a. a ≡ refused_with 4)
  -- at ten: refusal 4, or a word that is not the sent one, with count exactly 8
  pub ten : AfterHits 10 (RefusedOrWrong (λ m. m ≡ 8))
  -- both come about with the zero word: any ten of the generator's places (example 5), and B17 to B26; there are frames with each
  pub ten-wrong : (f : List ℕ) (e : List Bool) → HitWord 10 (zeros 187) e f → among e generator_word ≡ true → repair_of f ≡ repaired_to generator_word 8
  pub ten-wrong-some : HitWord 10 (zeros 187) (first_places 10) (word_bytes (first_places 10)) × (among (first_places 10) generator_word ≡ true)
  pub ten-refused : (f : List ℕ) → HitWord 10 (zeros 187) first_ten f → repair_of f ≡ refused_with 4
  pub ten-refused-some : HitWord 10 (zeros 187) first_ten (word_bytes first_ten)

-- ---- doubtful marks

-- the frame f and the marks m have 26 bytes; f holds the code word c, hit in the places of e: in any under the s marks that are set, and in t others
pub record HitMarked (t s : ℕ) (c e : List Bool) (f m : List ℕ) : Type 0 where
  pub size : length f ≡ 26
  pub marks-size : length m ≡ 26
  pub sent : CodeWord c
  pub places : length e ≡ 187
  pub number : weight (unmarked_in (protected m) e) ≡ t
  pub marks : weight (protected m) ≡ s
  pub received : protected f ≡ add e c

-- whichever code word was sent, whatever stood under s marks, and whichever t unmarked places were hit: what is then true of it and the answer
abbrev pub AfterMarks : (t s : ℕ) → (List Bool → Answer → Type 0) → Type 0
AfterMarks t s Q = (f m : List ℕ) (c e : List Bool) → HitMarked t s c e f m → Q c (marked_repair_of f m)

-- no code word has 2t+s at most 17
abbrev pub NoneFew : (marks r : List Bool) → Type 0
NoneFew ms r = (c : List Bool) → CodeWord c → Few ms (unmarked_dist ms r c) → ⊥

-- the answer a is a code word with 2t+s at most 17 and its own t, or there is none and a is refusal 4
pub data FoundOrNone (ms r : List Bool) (a : Answer) : Type 0 where
  found : (c : List Bool) → CodeWord c → Few ms (unmarked_dist ms r c) → a ≡ repaired_to c (unmarked_dist ms r c) → FoundOrNone ms r a
  none : NoneFew ms r → a ≡ refused_with 4 → FoundOrNone ms r a

pub record DoubtfulMarks : Type 0 where
  -- whatever a frame and marks of 26 bytes hold, the answer is such a word or refusal 4
  pub answered : (f m : List ℕ) → length f ≡ 26 → length m ≡ 26 → FoundOrNone (protected m) (protected f) (marked_repair_of f m)
  -- a code word that differs in t unmarked places, with 2t+s at most 17, is the answer, and t the count
  pub found : (f m : List ℕ) (c : List Bool) → length f ≡ 26 → length m ≡ 26 → CodeWord c → Few (protected m) (unmarked_dist (protected m) (protected f) c)
      → marked_repair_of f m ≡ repaired_to c (unmarked_dist (protected m) (protected f) c)
  -- two words with t and u differ in at most t + u + s places; so there is never more than one
  pub apart : (ms r c d : List Bool) → length ms ≡ 187 → length r ≡ 187 → CodeWord c → CodeWord d
      → dist c d ≤ unmarked_dist ms r c + unmarked_dist ms r d + weight ms
  pub only_one : (ms r c d : List Bool) → length ms ≡ 187 → length r ≡ 187 → CodeWord c → CodeWord d → Few ms (unmarked_dist ms r c) → Few ms (unmarked_dist ms r d)
      → c ≡ d
  -- refusal 1 exactly when the frame or the marks are not 26 bytes, then 4 exactly when there is none
  pub short : (f m : List ℕ) → (length f ≢ 26) ⊎ (length m ≢ 26) → marked_repair_of f m ≡ refused_with 1
  pub short-if-refused : (f m : List ℕ) → number_of (marked_repair_of f m) ≡ 1 → (length f ≢ 26) ⊎ (length m ≢ 26)
  pub refused-if-none : (f m : List ℕ) → length f ≡ 26 → length m ≡ 26 → NoneFew (protected m) (protected f) → marked_repair_of f m ≡ refused_with 4
  pub none-if-refused : (f m : List ℕ) → number_of (marked_repair_of f m) ≡ 4 → (length f ≡ 26) × (length m ≡ 26) × NoneFew (protected m) (protected f)
  -- the bits under the marks do not matter, nor do those of the frame outside B17 to B203
  pub under-marks : (f g m : List ℕ) → length f ≡ length g → unmarked_in (protected m) (protected f) ≡ unmarked_in (protected m) (protected g)
      → marked_repair_of f m ≡ marked_repair_of g m
  -- marks outside B17 to B203 do not matter
  pub marks-outside : (f m n : List ℕ) → length m ≡ length n → protected m ≡ protected n → marked_repair_of f m ≡ marked_repair_of f n
  -- with no marks the answer is that of the base, and the words that are tried are those of the base
  pub no-marks : (f m : List ℕ) → length m ≡ 26 → protected m ≡ zeros 187 → marked_repair_of f m ≡ repair_of f
  pub no-marks-tried : (t : ℕ) (r : List Bool) → marked_ball t (zeros (length r)) r ≡ ball t r
  -- whichever code word was sent, whatever stood under s marks, and whichever t unmarked places were hit, with 2t+s at most 17: the sent word and t
  pub gives-sent-word : (t s : ℕ) → 2 * t + s ≤ 17 → AfterMarks t s (λ c a. a ≡ repaired_to c t)
  -- with more: refusal 4, or a word that is not the sent one, whose count u has 2u+s at most 17 and makes at least 18 with the hits and the marks
  pub beyond : (t s : ℕ) → 18 ≤ 2 * t + s → AfterMarks t s (RefusedOrWrong (λ u. (2 * u + s ≤ 17) × (18 ≤ t + u + s)))
  -- at exactly 18, then, and with more than 17 marks: always refusal 4
  pub eighteen : (t s : ℕ) → 2 * t + s ≡ 18 → AfterMarks t s (λ c a. a ≡ refused_with 4)
  pub many-marks : (f m : List ℕ) → length f ≡ 26 → length m ≡ 26 → 18 ≤ weight (protected m) → marked_repair_of f m ≡ refused_with 4
  -- every code word, hit in any places and with any marks, is held by a frame: no line above speaks of nothing
  pub held : (c e ms : List Bool) → CodeWord c → length e ≡ 187 → length ms ≡ 187
      → HitMarked (weight (unmarked_in ms e)) (weight ms) c e (word_bytes (add e c)) (word_bytes ms)

-- the code, its check table and its encoder
pub record CodeLaws : Type 0 where
  -- two different code words differ in at least 18 places
  pub distance : (c d : List Bool) → CodeWord c → CodeWord d → c ≢ d → 18 ≤ dist c d
  -- each row of the shipped table, or of another that meets its rule, is the row of that number in the four laws that follow
  pub table-row : (t : List ℕ) → CheckTable t → (s : ℕ) → s < 273 → row_at t s ≡ row s
  -- every code word has an even sum on each row, and only code words have
  pub even : (c : List Bool) → CodeWord c → (s : ℕ) → s < 273 → syndrome c s ≡ false
  pub rows-decide : (w : List Bool) → length w ≡ 187 → ((s : ℕ) → s < 273 → syndrome w s ≡ false) → CodeWord w
  -- each place lies on 17 rows; two different places share exactly one
  pub seventeen-rows : (p : ℕ) → p < 273 → count (λ s. member p (row s)) (upto 273) ≡ 17
  pub one-shared-row : (p q : ℕ) → p < 273 → q < 273 → p ≢ q → count (λ s. member p (row s) && member q (row s)) (upto 273) ≡ 1
  -- a message with its parity is a code word, and the only one with that message
  pub encoded : (m : List Bool) → length m ≡ 105 → CodeWord (m ++ parity_of m)
  pub encoded-only : (m p : List Bool) → length m ≡ 105 → length p ≡ 82 → CodeWord (m ++ p) → p ≡ parity_of m
  -- the same of a frame that is encoded: it keeps its message, and holds the only code word with that message
  pub frame-encoded : (f : List ℕ) → length f ≡ 26 → CodeWord (protected (encode_of f))
  pub frame-message : (f : List ℕ) → length f ≡ 26 → message_of (encode_of f) ≡ message_of f
  pub frame-only : (f : List ℕ) (w : List Bool) → length f ≡ 26 → CodeWord w → take 105 w ≡ message_of f → w ≡ protected (encode_of f)
