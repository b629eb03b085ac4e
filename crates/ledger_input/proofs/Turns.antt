-- The turns of the program. Assumes nothing.
use mathlib.Core.Path.{◌≡◌, refl, sym, ap, ap₂, ◌∙◌, subst}
use mathlib.Core.Bool.{Bool, true, false}
use mathlib.Core.Logic.{◌⊎◌, inl, inr, ⊎_elim}
use mathlib.Core.List.{List, [], ◌++◌, append_assoc, append-nil}
use Prim.Native.Nat.{ℕ, zero, suc, ◌+◌, ◌-◌, ◌*◌, ◌≤◌, ◌<◌, min}
use native.Mathlib.Omega.{arith}
use lib.Dec.{eqb, ltb}
use lib.ListN.{length, take, drop, length-append, length-take, length-drop, take-append-drop}
use lib.Seq.{take_all}
use borrow.Author.Tests.{eq-eqb, ne_eqb, eqb-true, eqb-false, lt-ltb, le-ltb, ltb-true, ltb-false}
use Rattle.frame.specs.declared.Edition.{Edition}
use Rattle.listing.specs.Lines.{piece_count}
use Rattle.listing.specs.declared.Pieces.TheVariants.{Frames}
use Rattle.listing.proofs.Counts.{count-whole, count-within, count-after}
use Rattle.ledger.specs.Counting.{Frame, ledger_of, most_frames, counted_in}
use Rattle.ledger.specs.declared.Ledger.{Ledger}
use Rattle.ledger.proofs.Lists.{list-seen, list-none}
use Rattle.ledger.proofs.Counted.{list-more}
use Rattle.ledger_input.specs.Input.{frames_in, all_frames, input_ledger, wanted_at, turns_at_most, ledger_after, turn_after, start, program_turn, Standing, Ahead}
use Rattle.ledger_input.specs.declared.LedgerTurn.{LedgerTurn}
use Rattle.ledger_input.proofs.Frames.{frames-none, frames-length, frames-append}

-- ---- the ways out of a turn

module _ (ed : Edition) (t : LedgerTurn) (s : List ℕ) (l : Ledger) (counted : l ≡ ledger_after ed t s) where
  -- the input has ended
  pub turn-ended : length s < t.wanted → ◌≡◌ {A = LedgerTurn} (record { ledger = l; wanted = 0 }) (turn_after ed t s)
  unfolding turn_after
  turn-ended h = rw (lt-ltb (length s) t.wanted h) (ap (λ (k : Ledger). record { ledger = k; wanted = 0 }) counted)

  -- it goes on, or 4,000,000 frames are counted
  pub turn-full : (w : ℕ) → t.wanted ≤ length s → w ≡ wanted_at l.seen → ◌≡◌ {A = LedgerTurn} (record { ledger = l; wanted = w }) (turn_after ed t s)
  unfolding turn_after
  turn-full w h e =
      rw (le-ltb (length s) t.wanted h)
      (ap (λ (n : ℕ). record { ledger = l; wanted = n }) e ∙ ap (λ (k : Ledger). record { ledger = k; wanted = wanted_at k.seen }) counted)

module _ (ed : Edition) where
  -- ---- one turn

  program-over : (k : ℕ) (t : LedgerTurn) (s : List ℕ) → t.wanted ≡ 0 → program_turn ed k t s ≡ t
  unfolding program_turn
  program-over zero t s e = refl
  program-over (suc k) t s e = rw (eq-eqb t.wanted 0 e)

  program-turn : (k : ℕ) (t : LedgerTurn) (s : List ℕ) → (t.wanted ≡ 0 → ⊥)
      → program_turn ed (suc k) t s ≡ program_turn ed k (turn_after ed t (take t.wanted s)) (drop t.wanted s)
  unfolding program_turn
  program-turn k t s n = rw (ne_eqb t.wanted 0 n)

  -- after the frames ds, something is read, which is s
  module _ (ds : List Frame) (w : ℕ) (s : List ℕ) (room : length ds + piece_count Frames (length s) ≤ most_frames) where
    turn-ledger : counted_in (ledger_of ds) (all_frames ed s) ≡ ledger_of (ds ++ all_frames ed s)
    turn-ledger = list-more ds (all_frames ed s) (omega (arith, frames-length ed (piece_count Frames (length s)) s))

    turn-seen : (counted_in (ledger_of ds) (all_frames ed s)).seen ≡ length ds + piece_count Frames (length s)
    turn-seen =
        ap (λ (l : Ledger). l.seen) turn-ledger ∙ list-seen (ds ++ all_frames ed s) ∙ length-append ds (all_frames ed s)
        ∙ ap (length ds +◌) (frames-length ed (piece_count Frames (length s)) s)

    -- fewer bytes than were asked for
    turn_last : length s < w → turn_after ed (record { ledger = ledger_of ds; wanted = w }) s ≡ record { ledger = ledger_of (ds ++ all_frames ed s); wanted = 0 }
    unfolding turn_after
    turn_last h = rw (lt-ltb (length s) w h, turn-ledger)

    turn_more : w ≤ length s
        → turn_after ed (record { ledger = ledger_of ds; wanted = w }) s
        ≡ record { ledger = ledger_of (ds ++ all_frames ed s); wanted = wanted_at (length ds + piece_count Frames (length s)) }
    unfolding turn_after
    turn_more h =
        rw (le-ltb (length s) w h)
        (λ i. record { ledger = turn-ledger i; wanted = wanted_at (turn-seen i) })

  -- ---- all of them

  -- the frames that are left of s, after n
  left : ℕ → List ℕ → List Frame
  left n s = frames_in ed (min (piece_count Frames (length s)) (most_frames - n)) s

  left-none : (n : ℕ) (s : List ℕ) → most_frames ≤ n → left n s ≡ []
  unfolding left
  left-none n s h =
      let z : min (piece_count Frames (length s)) (most_frames - n) ≡ 0 = omega arith in
      ap (λ (k : ℕ). frames_in ed k s) z ∙ frames-none ed s

  left-all : (n : ℕ) (s : List ℕ) → n + piece_count Frames (length s) ≤ most_frames → left n s ≡ all_frames ed s
  unfolding left
  left-all n s h =
      let z : min (piece_count Frames (length s)) (most_frames - n) ≡ piece_count Frames (length s) = omega arith in
      ap (λ (k : ℕ). frames_in ed k s) z

  -- m whole frames of them, and the others
  left-more : (n m : ℕ) (s : List ℕ) → 26 * m ≤ length s → n + m ≤ most_frames
      → left n s ≡ all_frames ed (take (26 * m) s) ++ left (n + m) (drop (26 * m) s)
  unfolding left
  left-more n m s h l =
      let f = take (26 * m) s in
      let r = drop (26 * m) s in
      let lf : length f ≡ 26 * m = length-take (26 * m) s ∙ omega arith in
      let lr : length r ≡ length s - 26 * m = length-drop (26 * m) s in
      let whole : piece_count Frames (length f) ≡ m = count-whole Frames (length f) m lf in
      let after : m + piece_count Frames (length r) ≡ piece_count Frames (length s) = rw lr (count-after Frames m (length s) h) in
      let both : min (piece_count Frames (length s)) (most_frames - n) ≡ m + min (piece_count Frames (length r)) (most_frames - (n + m)) = omega arith in
      ap₂ (frames_in ed) both (sym (take-append-drop (26 * m) s))
      ∙ frames-append ed m (min (piece_count Frames (length r)) (most_frames - (n + m))) f r lf
      ∙ ap (λ (k : ℕ). frames_in ed k f ++ frames_in ed (min (piece_count Frames (length r)) (most_frames - (n + m))) r) (sym whole)

  -- the program from a list's ledger on
  FromLedger : ℕ → List Frame → List ℕ → Type 0
  FromLedger k ds s =
      program_turn ed k (record { ledger = ledger_of ds; wanted = wanted_at (length ds) }) s ≡ record { ledger = ledger_of (ds ++ left (length ds) s); wanted = 0 }

  -- at the end of these frames
  ended : List Frame → LedgerTurn
  ended fs = record { ledger = ledger_of fs; wanted = 0 }

  from-full : (k : ℕ) (ds : List Frame) (s : List ℕ) → length ds ≡ most_frames → FromLedger k ds s
  unfolding FromLedger ended
  from-full k ds s full =
      let z : wanted_at (length ds) ≡ 0 = omega arith in
      program-over k (record { ledger = ledger_of ds; wanted = wanted_at (length ds) }) s z
      ∙ ap (λ (w : ℕ). record { ledger = ledger_of ds; wanted = w }) z
      ∙ ap ended (sym (ap (ds ++◌) (left-none (length ds) s (omega arith)) ∙ append-nil ds))

  module _ (k : ℕ) (ds : List Frame) (s : List ℕ) (few : length ds < most_frames) where
    turn : LedgerTurn
    turn = record { ledger = ledger_of ds; wanted = wanted_at (length ds) }

    -- the input ends in this turn
    from_last : length s < wanted_at (length ds) → FromLedger (suc k) ds s
    unfolding FromLedger turn ended
    from_last h =
        let w = wanted_at (length ds) in
        let room = count-within Frames (length s) (min 2520 (most_frames - length ds)) (omega arith) in
        program-turn k turn s (λ z. omega arith)
        ∙ ap (λ (r : List ℕ). program_turn ed k (turn_after ed turn r) (drop w s)) (take_all w s (omega arith))
        ∙ ap (λ (t : LedgerTurn). program_turn ed k t (drop w s)) (turn_last ds w s (omega arith) h)
        ∙ program-over k (record { ledger = ledger_of (ds ++ all_frames ed s); wanted = 0 }) (drop w s) refl
        ∙ ap (λ (fs : List Frame). ended (ds ++ fs)) (sym (left-all (length ds) s (omega arith)))

    -- it goes on
    from_more : wanted_at (length ds) ≤ length s
        → ((es : List Frame) (r : List ℕ) → length es ≡ length ds + min 2520 (most_frames - length ds) → FromLedger k es r) → FromLedger (suc k) ds s
    unfolding FromLedger turn ended
    from_more h others =
        let m = min 2520 (most_frames - length ds) in
        let w = wanted_at (length ds) in
        let f = take w s in
        let r = drop w s in
        let es = ds ++ all_frames ed f in
        let lf : length f ≡ 26 * m = length-take w s ∙ omega arith in
        let whole : piece_count Frames (length f) ≡ m = count-whole Frames (length f) m lf in
        let le : length es ≡ length ds + m = length-append ds (all_frames ed f) ∙ ap (length ds +◌) (frames-length ed (piece_count Frames (length f)) f ∙ whole) in
        program-turn k turn s (λ z. omega arith)
        ∙ ap (λ (t : LedgerTurn). program_turn ed k t r) (turn_more ds w f (omega arith) (omega arith))
        ∙ ap (λ (n : ℕ). program_turn ed k (record { ledger = ledger_of es; wanted = wanted_at n }) r) (ap (length ds +◌) whole ∙ sym le)
        ∙ others es r le
        ∙ ap ended
        (ap (λ (n : ℕ). es ++ left n r) le ∙ append_assoc ds (all_frames ed f) (left (length ds + m) r)
        ∙ ap (ds ++◌) (sym (left-more (length ds) m s h (omega arith))))

  program-from : (k : ℕ) (ds : List Frame) (s : List ℕ) → length ds ≤ most_frames → most_frames ≤ length ds + 2520 * k → FromLedger k ds s
  program-from zero ds s few enough = from-full 0 ds s (omega arith)
  program-from (suc k) ds s few enough =
      go (eqb (length ds) most_frames) refl (ltb (length s) (wanted_at (length ds))) refl (λ es r e. program-from k es r (omega arith))
    where
      go : (t : Bool) → eqb (length ds) most_frames ≡ t → (u : Bool) → ltb (length s) (wanted_at (length ds)) ≡ u
          → ((es : List Frame) (r : List ℕ) → length es ≡ length ds + min 2520 (most_frames - length ds) → most_frames ≤ length es + 2520 * k → FromLedger k es r)
          → FromLedger (suc k) ds s
      go true e u d others = from-full (suc k) ds s (eqb-true (length ds) most_frames e)
      go false e true d others =
          let apart = eqb-false (length ds) most_frames e in
          from_last k ds s (omega arith) (ltb-true (length s) (wanted_at (length ds)) d)
      go false e false d others =
          let apart = eqb-false (length ds) most_frames e in
          from_more k ds s (omega arith) (ltb-false (length s) (wanted_at (length ds)) d) (λ es r l. others es r l (omega arith))

  pub whole : (k : ℕ) (s : List ℕ) → turns_at_most ≤ k → program_turn ed k start s ≡ record { ledger = input_ledger ed s; wanted = 0 }
  unfolding FromLedger left input_ledger
  whole k s h =
      ap (λ (l : Ledger). program_turn ed k (record { ledger = l; wanted = 65520 }) s) (sym list-none)
      ∙ program-from k [] s (omega arith) (omega arith)

-- ---- each turn gets on

pub begins : Standing start
begins = record { frames = []; few = omega arith; counted = sym list-none; next = inr refl }

pub stops : (t : LedgerTurn) → Standing t → 26 * t.ledger.seen + t.wanted ≤ 26 * most_frames
stops t w = ⊎_elim (λ e. omega (arith, seen)) (λ e. omega (arith, seen)) w.next
  where
    seen : (t.ledger.seen ≡ length w.frames) × (length w.frames ≤ most_frames)
    seen = (ap (λ (l : Ledger). l.seen) w.counted ∙ list-seen w.frames, w.few)

-- d frames, and then those of a turn: 4,000,000 are read, or there are some left
left_over : (d f : ℕ) → f ≡ d + min 2520 (most_frames - d) → 0 < min 2520 (most_frames - d) → (wanted_at f ≡ 0) ⊎ ((d < f) × (f < most_frames))
left_over d f e some = go (ltb f most_frames) refl
  where
    go : (t : Bool) → ltb f most_frames ≡ t → (wanted_at f ≡ 0) ⊎ ((d < f) × (f < most_frames))
    go true h = inr (omega arith, ltb-true f most_frames h)
    go false h = let full = ltb-false f most_frames h in inl (omega arith)

module _ (ed : Edition) (t : LedgerTurn) (s : List ℕ) (w : Standing t) where
  -- the same turn, by its list
  by-list : t ≡ record { ledger = ledger_of w.frames; wanted = t.wanted }
  by-list = λ i. record { ledger = w.counted i; wanted = t.wanted }

  seen-list : t.ledger.seen ≡ length w.frames
  seen-list = ap (λ (l : Ledger). l.seen) w.counted ∙ list-seen w.frames

  -- the frames after it
  after : List Frame
  after = w.frames ++ all_frames ed s

  after-length : length after ≡ length w.frames + piece_count Frames (length s)
  unfolding after
  after-length = length-append w.frames (all_frames ed s) ∙ ap (length w.frames +◌) (frames-length ed (piece_count Frames (length s)) s)

  ahead-last : length s < t.wanted → t.wanted ≡ wanted_at (length w.frames) → Ahead t (turn_after ed t s)
  unfolding after
  ahead-last h e =
      let room = w.few in
      let most = count-within Frames (length s) (min 2520 (most_frames - length w.frames)) (omega arith) in
      let size = after-length in
      let seen = seen-list in
      let counted = list-seen after in
      let last : turn_after ed t s ≡ record { ledger = ledger_of after; wanted = 0 } =
      ap (λ (x : LedgerTurn). turn_after ed x s) by-list ∙ turn_last ed w.frames t.wanted s (omega arith) h in
      subst (Ahead t) (sym last) (record { standing = record { frames = after; few = omega arith; counted = refl; next = inl refl }; size = omega arith; kept = omega arith; more = inl refl })

  ahead_more : length s ≡ t.wanted → (t.wanted ≡ 0 → ⊥) → t.wanted ≡ wanted_at (length w.frames) → Ahead t (turn_after ed t s)
  unfolding after
  ahead_more h some e =
      let room = w.few in
      let m = min 2520 (most_frames - length w.frames) in
      let count : piece_count Frames (length s) ≡ m = count-whole Frames (length s) m (omega arith) in
      let size = after-length in
      let more : turn_after ed t s ≡ record { ledger = ledger_of after; wanted = wanted_at (length after) } =
      ap (λ (x : LedgerTurn). turn_after ed x s) by-list ∙ turn_more ed w.frames t.wanted s (omega arith) (omega arith)
      ∙ ap (λ (k : ℕ). record { ledger = ledger_of after; wanted = wanted_at k }) (sym size) in
      let seen = seen-list in
      let counted = list-seen after in
      let some_left : (wanted_at (length after) ≡ 0) ⊎ ((t.ledger.seen < (ledger_of after).seen) × ((ledger_of after).seen < most_frames)) =
      ⊎_elim (λ z. inl z) (λ p. inr (omega (arith, p), omega (arith, p))) (left_over (length w.frames) (length after) (omega arith) (positive (some-wanted some e))) in
      subst (Ahead t) (sym more) (record { standing = record { frames = after; few = omega arith; counted = refl; next = inr refl }; size = omega arith; kept = omega arith; more = some_left })
    where
      some-wanted : (t.wanted ≡ 0 → ⊥) → t.wanted ≡ wanted_at (length w.frames) → (min 2520 (most_frames - length w.frames) ≡ 0 → ⊥)
      some-wanted n e z = n (omega arith)

      positive : {k : ℕ} → (k ≡ 0 → ⊥) → 0 < k
      positive {k} n = omega (arith, n)

  pub ahead : (t.wanted ≡ 0 → ⊥) → length s ≤ t.wanted → Ahead t (turn_after ed t s)
  ahead some within = ⊎_elim (λ e. absurd (some e)) (λ e. go e (ltb (length s) t.wanted) refl) w.next
    where
      go : t.wanted ≡ wanted_at (length w.frames) → (u : Bool) → ltb (length s) t.wanted ≡ u → Ahead t (turn_after ed t s)
      go e true d = ahead-last (ltb-true (length s) t.wanted d) e
      go e false d = let h = ltb-false (length s) t.wanted d in ahead_more (omega arith) some e
