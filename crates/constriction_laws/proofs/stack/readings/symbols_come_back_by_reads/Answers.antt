use Rattle.std.proofs.Common.{◌≡◌, ℕ, List, sym, ap, ◌∙◌, subst}
use Rattle.constriction_stack.specs.Ans.{AnsState, filled, exported}
use Rattle.constriction_laws.specs.stack.Readings.{state_by_words}
use Rattle.constriction_stack.specs.Symbols.{DecodesAll}
use Rattle.constriction_laws.proofs.stack.readings.symbols_come_back_by_reads.Goals as goal

pub returns : goal.returns
returns g c = λ words w s items others given last z ms (law, (state, h, same)) (start, r, fits, d) e.
    let number = g.Word.Natural.number in
    let imported : filled w s 0 (exported w state) ≡ state_by_words number words start =
    ap (λ (ws : List ℕ). filled w s 0 ws) (sym same) ∙ c.imports_are_words.ensures words w s start.state.head given start.backend z fits law r in
    let decoded : DecodesAll w s others (state_by_words number words start) (state_by_words number words last) = c.decodes_are_words.ensures.all words w s others start last law d in
    c.symbols_come_back.ensures.only w s items others state (state_by_words number words last) z ms h
    (subst (λ (x : AnsState). DecodesAll w s others x (state_by_words number words last)) (sym imported) decoded) e
