use Rattle.std.proofs.Common.{reverse}
use Rattle.constriction_symbol.specs.Bits.{bits_of}
use Rattle.constriction_symbol.proofs.PutAtOnce.{put_ok, put_err}
use Rattle.constriction_symbol.proofs.writing.SymbolCoderWriteBitStream.encode_symbol.Goals as goal
use Rattle.constriction_symbol.proofs.writing.SymbolCoderWriteBitStream.encode_symbol.Goals.{in-Ok, in-Err}

pub returns-in-Some : goal.returns-in-Some
returns-in-Some g c =
    let number = g.Word.Natural.number in
    let codeword = g.C.Codebook.codeword c.args.codebook c.args.symbol.now in
    let code = reverse (bits_of c.in-Some.code.1 (number c.in-Some.code.0)) in
    let bits = bits_of c.in-Some.code.1 (number c.in_order-ordered.result) in
    rw (← c.self.view_is)
    (elim c.match-put_bits.branch [
      | in-Ok w ↦ rw w.result-is
          (put_ok g.Word.Natural.BITS number g.B.Holds.words g.B.WriteWords.room g.B.WriteWords.writes g.B.WriteWords.write_fails _ g.S.BitOrder.form codeword code bits c.self.inside.last c.put_bits.new.last c.self.inside.backend c.put_bits.new.backend
          c.in-Some.ensures.is c.in_order-ordered.ensures.bits w.in-Ok.ensures)
      | in-Err w ↦ rw w.result-is
          (put_err g.Word.Natural.BITS number g.B.Holds.words g.B.WriteWords.room g.B.WriteWords.writes g.B.WriteWords.write_fails _ g.S.BitOrder.form codeword code bits c.self.inside.last c.put_bits.new.last c.self.inside.backend c.put_bits.new.backend w.in-Err.error
          c.in-Some.ensures.is c.in_order-ordered.ensures.bits w.in-Err.ensures)
    ])
