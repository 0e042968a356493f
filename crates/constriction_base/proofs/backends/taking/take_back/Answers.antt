use Rattle.std.specs.Prelude.{◌≡◌, ◌+◌, ◌-◌, suc}
use Rattle.std.proofs.Common.{arith, refl}
use Rattle.constriction_base.proofs.Guards.{read_drop, read_last, read_more}
use Rattle.constriction_base.proofs.backends.taking.take_back.Goals as goal

pub loop-i-preserved : goal.loop-i-preserved
loop-i-preserved g c =
    record {
      reads = λ left after more.
          let one_more : c.loop-i._i + 1 + left ≡ c.loop-i._i + suc left = omega arith in
          rw one_more (c.loop-i.invariant.reads (suc left) after (read_more g.Backend.ReadWords.reads c.read.result c.in-Ok.field-0 c.in-Ok.is _ _ after left c.read.ensures.reads more));
      words = λ never. read_drop c.read.result c.in-Ok.field-0 c.in-Ok.is c.loop-i._i _ _ _ (c.read.ensures.words g.met.Backend.WriteWords.knows_words) (c.loop-i.invariant.words never);
    }

pub returns-in-Err-clause-reads : goal.returns-in-Err-clause-reads
returns-in-Err-clause-reads g c =
    let left = c.args.count - suc c.loop-i._i in
    let all : c.args.count ≡ c.loop-i._i + suc left = omega (arith, c.loop-i-test.true) in
    rw all (c.loop-i.invariant.reads (suc left) c.read.new.self (read_last g.Backend.ReadWords.reads c.read.result c.in-Err.field-0 c.in-Err.is _ _ left c.read.ensures.reads))

pub returns-clause-reads : goal.returns-clause-reads
returns-clause-reads g c =
    let all : c.args.count ≡ c.loop-i._i + 0 = omega (arith, c.loop-i-test.false, c.loop-i.auto._i-end) in
    rw all (c.loop-i.invariant.reads 0 c.loop-i.bulk refl)
