-- `dsc_words::Word::put` meets its contract: all 26 bytes are written. Assumes nothing.
use native.Mathlib.Omega.{arith}
use Rattle.dsc_words.proofs.Loading.{stored-word}
use Rattle.dsc_words.proofs.Word.put.Goals as goal

pub returns : goal.returns
returns c =
    let w = c.args.self in
    stored-word w.low w.middle w.high c.args.out.now _ _ _ c.requires (omega arith) (omega arith) w.fits c.put_eight.ensures c.put_eight-2.ensures c.put_eight-3.ensures
