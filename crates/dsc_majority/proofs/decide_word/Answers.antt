-- `dsc_majority::decide_word` meets its contract. Assumes nothing.
use mathlib.Core.Path.{ap, ◌∙◌}
use Rattle.dsc_shift_register.specs.Register.{decided, register_word}
use Rattle.dsc_majority.proofs.decide_word.Goals as goal

pub returns : goal.returns
unfolding register_word
returns c =
    let r = c.args.r.now in
    c.decide_bits.ensures ∙ ap (λ s. decided s r) c.load-s.ensures
