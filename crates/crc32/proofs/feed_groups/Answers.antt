-- `crc32::feed_groups` meets its contract: the register is the CRC of the whole groups passed. Assumes nothing.
use Rattle.std.proofs.Common.{◌≡◌, [], ◌++◌, sym, ap, refl, ◌∙◌, arith, length, length-append, append_assoc, ap₂, rules, ◌<◌, ◌*◌, ◌/◌, take}
use lib.Seq.{take_at}
use Rattle.std.specs.Slice.Iter.{chunks_exact_rest}
use Rattle.bits.specs.Bits.{bits}
use Rattle.bits.proofs.Bits.{bits-append}
use Rattle.crc.specs.Crc.{crc32_of}
use Rattle.crc.proofs.Crc.{crc32-none, crc32-turn}
use Rattle.crc32.proofs.feed_groups.Goals as goal

pub loop-group-init : goal.loop-group-init
unfolding bits
loop-group-init c =
    record { eight = search rules; passed = record { groups = []; all = search rules; whole = omega arith; register = sym crc32-none } }

pub loop-group-preserved : goal.loop-group-preserved
loop-group-preserved c =
    let s = c.args.s.now in
    let before = c.loop-group.invariant.passed in
    let group = c.in-Some.group.now in
    let rest = chunks_exact_rest c.next.new.self in
    let split : chunks_exact_rest c.loop-group.group-iterator ≡ group ++ rest = search rules in
    let long : length group ≡ 8 = search rules in
    record {
      eight = search rules;
      passed = record {
        groups = before.groups ++ group;
        all = before.all ∙ ap (before.groups ++◌) split ∙ sym (append_assoc before.groups group rest);
        whole = omega (arith, length-append before.groups group, long, before.whole);
        register =
            c.feed_group-r.ensures
            ∙ crc32-turn (bits before.groups) (bits group) c.loop-group.r before.register
            ∙ ap crc32_of (sym (bits-append before.groups group));
      };
    }

pub returns : goal.returns
returns c =
    let s = c.args.s.now in
    let before = c.loop-group.invariant.passed in
    let rest = chunks_exact_rest c.loop-group.group-iterator in
    let short : length rest < 8 = search rules in
    let e : length s / 8 * 8 ≡ length before.groups = omega (arith, ap length before.all, length-append before.groups rest, short, before.whole) in
    before.register ∙ ap (λ x. crc32_of (bits x)) (sym (ap₂ take e before.all ∙ take_at before.groups rest (length before.groups) refl))
