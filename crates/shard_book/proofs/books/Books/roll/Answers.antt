use Rattle.shard_book.specs.BooksState.{BooksState}
use Rattle.shard_book.proofs.RollLemmas.{are_books, rolls_in_part}
use Rattle.shard_book.proofs.books.Books.roll.Goals as goal

pub invariant_of-self : goal.invariant_of-self
invariant_of-self g c =
    let inside : BooksState = record { spec = c.self.inside.spec; books = c.self.inside.books.items } in
    are_books inside c.args.self.now c.roll_each.result c.roll_each.new.books.items c.self.view_is c.self.invariant c.roll_each.ensures.ok c.roll_each.ensures.err

pub returns-clause-books : goal.returns-clause-books
returns-clause-books g c =
    let inside : BooksState = record { spec = c.self.inside.spec; books = c.self.inside.books.items } in
    are_books inside c.args.self.now c.roll_each.result c.roll_each.new.books.items c.self.view_is c.self.invariant c.roll_each.ensures.ok c.roll_each.ensures.err

pub returns-clause-err : goal.returns-clause-err
returns-clause-err g c =
    let inside : BooksState = record { spec = c.self.inside.spec; books = c.self.inside.books.items } in
    rolls_in_part inside c.args.self.now c.roll_each.result c.roll_each.new.books.items c.self.view_is c.roll_each.ensures.err
