use Rattle.std.proofs.Common.{◌≡◌, ◌++◌, ◌∷◌, [], ℕ, List, length, sym, ◌∙◌, ap, subst, rules}
use Rattle.stored_data.specs.Words.{fields_in, width}
use Rattle.stick_model.specs.Gathered.{AreCut, Gathered, gathered, row_with, rows_in, with_row}
use Rattle.stick_model.specs.declared.gathering.Head.{Head}
use Rattle.stick_model.specs.declared.rows.Row.{Row}
use Rattle.stick_model.proofs.GatheredLemmas.{cut-more, rows-more}
use Rattle.stick_model.proofs.gathering.Gathering.push.Goals as goal

pub invariant_of-self-2 : goal.invariant_of-self-2
invariant_of-self-2 c =
    let g = c.self.inside in
    let W : ℕ = width g.columns in
    let key : List ℕ = c.args.key.now in
    let head : Head = record { size = c.in-Ok.size; refs = c.args.refs; left = c.args.left } in
    let keyed : head.size ≡ length key = search rules in
    let sized : length c.args.words.now ≡ W = c.requires ∙ ap (λ (all : Gathered). width all.columns) (sym c.self.view_is) in
    let heads : c.push_reserved.new.self.items ≡ g.heads.items ++ head ∷ [] = c.push_reserved.ensures.items ∙ ap (λ h. h ++ head ∷ []) c.reserve-3.ensures.items in
    let bytes : c.append.new.list.items ≡ g.bytes.items ++ key = c.append.ensures ∙ ap (λ b. b ++ c.bytes-bytes.result.now) c.reserve.ensures.items ∙ ap (λ k. g.bytes.items ++ k) c.bytes-bytes.ensures in
    let words : c.append-2.new.list.items ≡ g.words.items ++ c.args.words.now = c.append-2.ensures ∙ ap (λ w. w ++ c.args.words.now) c.reserve-2.ensures.items in
    subst (λ hs. AreCut W hs c.append.new.list.items c.append-2.new.list.items) (sym heads)
    (subst (λ bs. AreCut W (g.heads.items ++ head ∷ []) bs c.append-2.new.list.items) (sym bytes)
    (subst (λ ws. AreCut W (g.heads.items ++ head ∷ []) (g.bytes.items ++ key) ws) (sym words) (cut-more W g.heads.items g.bytes.items g.words.items head key c.args.words.now c.self.invariant keyed sized)))

pub returns-clause-ok : goal.returns-clause-ok
returns-clause-ok c =
    let g = c.self.inside in
    let W : ℕ = width g.columns in
    let key : List ℕ = c.args.key.now in
    let head : Head = record { size = c.in-Ok.size; refs = c.args.refs; left = c.args.left } in
    let keyed : head.size ≡ length key = search rules in
    let sized : length c.args.words.now ≡ W = c.requires ∙ ap (λ (all : Gathered). width all.columns) (sym c.self.view_is) in
    let heads : c.push_reserved.new.self.items ≡ g.heads.items ++ head ∷ [] = c.push_reserved.ensures.items ∙ ap (λ h. h ++ head ∷ []) c.reserve-3.ensures.items in
    let bytes : c.append.new.list.items ≡ g.bytes.items ++ key = c.append.ensures ∙ ap (λ b. b ++ c.bytes-bytes.result.now) c.reserve.ensures.items ∙ ap (λ k. g.bytes.items ++ k) c.bytes-bytes.ensures in
    let words : c.append-2.new.list.items ≡ g.words.items ++ c.args.words.now = c.append-2.ensures ∙ ap (λ w. w ++ c.args.words.now) c.reserve-2.ensures.items in
    (λ i. gathered g.columns g.clock (rows_in g.columns g.clock (heads i) (bytes i) (words i)))
    ∙ ap (λ (rows : List Row). gathered g.columns g.clock rows) (rows-more g.columns g.clock g.heads.items g.bytes.items g.words.items head key c.args.words.now c.self.invariant keyed sized)
    ∙ ap (λ (all : Gathered). with_row all (row_with all.columns all.clock key c.args.refs c.args.left (fields_in all.columns c.args.words.now))) c.self.view_is
