-- A header's fields, in the order of the layout. Assumes nothing.
use Rattle.std.specs.Prelude.{◌≡◌, List, [], ◌∷◌, ◌++◌, ℕ, zero, suc, ◌+◌, length, get_or}
use Rattle.header.specs.declared.Front.{Front}
use Rattle.header.specs.declared.Extension.{Extension}
use Rattle.header.specs.declared.Header.{Header}

-- n of the values v, from number k on, in steps of d
unfoldable pub run : List ℕ → (k d n : ℕ) → List ℕ
run v k d zero = []
run v k d (suc n) = get_or v k 0 ∷ run v (k + d) d n

-- the elements of two lists in turn
unfoldable pub pairs : List ℕ → List ℕ → List ℕ
pairs [] ys = []
pairs (x ∷ xs) [] = x ∷ 0 ∷ pairs xs []
pairs (x ∷ xs) (y ∷ ys) = x ∷ y ∷ pairs xs ys

-- the 119 fields of the front
unfoldable pub front_fields : Front → List ℕ
front_fields f =
    f.packet ∷ f.sync ∷ f.change ∷ f.method ∷ f.form
    ∷ (f.valid ++ (pairs f.streams f.networks ++ (f.states ++ f.carried ∷ f.emergency ∷ f.slots)))

-- the front that has these fields
unfoldable pub front_of : List ℕ → Front
front_of v =
    record {
      packet = get_or v 0 0;
      sync = get_or v 1 0;
      change = get_or v 2 0;
      method = get_or v 3 0;
      form = get_or v 4 0;
      valid = run v 5 1 15;
      streams = run v 20 2 15;
      networks = run v 21 2 15;
      states = run v 50 1 15;
      carried = get_or v 65 0;
      emergency = get_or v 66 0;
      slots = run v 67 1 52;
    }

-- the 26 fields of the extension
unfoldable pub extension_fields : Extension → List ℕ
extension_fields e = e.ac

unfoldable pub extension_of : List ℕ → Extension
extension_of v = record { ac = run v 0 1 26 }

-- the arrays have their lengths, as every header in the box has
pub record Sized (r : Header) : Type 0 where
  pub valid : length r.front.valid ≡ 15
  pub streams : length r.front.streams ≡ 15
  pub networks : length r.front.networks ≡ 15
  pub states : length r.front.states ≡ 15
  pub slots : length r.front.slots ≡ 52
  pub ac : length r.extension.ac ≡ 26
