-- A buffer that is filled part by part. Assumes nothing.
use Rattle.std.proofs.Common.{◌≡◌, ℕ, ◌+◌, ◌≤◌, List, ◌++◌, sym, ap, ◌∙◌, length, take, drop, append_assoc, length-append, length-take-le, arith}
use lib.Seq.{take-append-add, take-append-le, drop_at, drop-drop}
use borrow.Rule.Slice.PartMut.{put_mid, post_of}

-- the part that is filled grows by the bytes that were read behind it
pub part-read : (a k n : ℕ) (xs ys : List ℕ) → a ≤ length xs → n ≤ length ys → take a xs ++ take n ys ≡ take (a + n) (put_mid a k xs ys)
part-read a k n xs ys h m =
    let rest = post_of a k xs in
    ap (λ l. take a xs ++ l) (sym (take-append-le n ys rest m)) ∙ sym (take-append-add (take a xs) (ys ++ rest) n)
    ∙ ap (λ i. take (i + n) (put_mid a k xs ys)) (length-take-le a xs h)

-- what stands behind the part stays
pub rest-kept : (a k w : ℕ) (xs ys : List ℕ) → a ≤ length xs → length ys ≡ k → a + k ≡ w → drop w (put_mid a k xs ys) ≡ drop w xs
rest-kept a k w xs ys h e f =
    let joined : length (take a xs ++ ys) ≡ w = omega (arith, length-append (take a xs) ys, length-take-le a xs h, e) in
    ap (drop w) (sym (append_assoc (take a xs) ys (post_of a k xs))) ∙ drop_at (take a xs ++ ys) (post_of a k xs) w joined ∙ drop-drop k a xs
    ∙ ap (λ i. drop i xs) f
