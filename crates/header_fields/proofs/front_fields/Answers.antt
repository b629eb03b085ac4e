-- `header_fields::front_fields` meets its contract. Assumes nothing.
use mathlib.Core.Path.{◌≡◌, ◌∙◌, ap}
use mathlib.Core.List.{append_assoc}
use native.Mathlib.Omega.{arith}
use lib.ListN.{length, length-set}
use Rattle.header.specs.declared.Front.{Front}
use Rattle.header.specs.Fields.{front_fields}
use Rattle.header_arrays.proofs.Copies.{filled_none, filled-one, filled_row, filled-pairs, filled-all}
use borrow.Author.Rules.{rules}
use Rattle.header_fields.proofs.front_fields.Goals as goal
use Rattle.header_fields.proofs.front_fields.Goals.{Start}

record Lengths (f : Front) : Type 0 where
  valid : length f.valid ≡ 15
  streams : length f.streams ≡ 15
  networks : length f.networks ≡ 15
  states : length f.states ≡ 15
  slots : length f.slots ≡ 52

lengths : (c : Start) → Lengths c.args.front
lengths c = record { valid = search rules; streams = search rules; networks = search rules; states = search rules; slots = search rules }

pub returns : goal.returns
unfolding front_fields
returns c =
    let f = c.args.front in
    let n = lengths (goal.at.returns c).Start in
    let z = c.zeros-v.result in
    let l : length z ≡ 119 = search rules in
    let v₀ = filled-one f.form (filled-one f.method (filled-one f.change (filled-one f.sync (filled-one f.packet (filled_none z) (omega arith)) (omega arith)) (omega arith)) (omega arith)) (omega arith) in
    let v₁ = filled_row f.valid c.put_values.new.out 15 v₀ c.put_values.ensures n.valid in
    let v₂ = filled-pairs f.streams f.networks c.put_pairs.new.out 15 v₁ c.put_pairs.ensures n.streams in
    let v₃ = filled_row f.states c.put_values-2.new.out 15 v₂ c.put_values-2.ensures n.states in
    let v₄ = filled-one f.emergency (filled-one f.carried v₃ (omega arith)) (omega arith) in
    let v₅ = filled_row f.slots c.put_values-3.new.out 52 v₄ c.put_values-3.ensures n.slots in
    filled-all v₅ l ∙ simp append_assoc
