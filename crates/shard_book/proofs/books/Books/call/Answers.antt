use Rattle.std.proofs.Common.{◌≡◌, Some, slice_get}
use Rattle.shard_book.specs.BookState.{BookState}
use Rattle.shard_book.specs.BooksState.{BooksState}
use Rattle.shard_book.proofs.BooksLemmas.{book_at, called_are_books, called_extends, called_lives, called_refused, out_of_book}
use Rattle.shard_book.proofs.books.Books.call.Goals as goal

pub invariant_of-self : goal.invariant_of-self
invariant_of-self g c =
    let inside : BooksState = record { spec = c.self.inside.spec; books = c.self.inside.books.items } in
    let old : BooksState = c.args.self.now in
    let before : BookState = c.index_mut-book.result.now in
    let at : slice_get old.books c.args.shard ≡ Some before = book_at inside old c.args.shard before c.self.view_is c.requires.shard c.index_mut-book.ensures.value in
    called_are_books inside old c.args.shard c.args.seat c.args.event c.call.result before c.call.new.self c.self.view_is c.self.invariant at c.call.ensures.ok c.call.ensures.book c.call.ensures.err

pub returns-clause-books : goal.returns-clause-books
returns-clause-books g c =
    let inside : BooksState = record { spec = c.self.inside.spec; books = c.self.inside.books.items } in
    let old : BooksState = c.args.self.now in
    let before : BookState = c.index_mut-book.result.now in
    let at : slice_get old.books c.args.shard ≡ Some before = book_at inside old c.args.shard before c.self.view_is c.requires.shard c.index_mut-book.ensures.value in
    called_are_books inside old c.args.shard c.args.seat c.args.event c.call.result before c.call.new.self c.self.view_is c.self.invariant at c.call.ensures.ok c.call.ensures.book c.call.ensures.err

pub returns-clause-ok : goal.returns-clause-ok
returns-clause-ok g c =
    let inside : BooksState = record { spec = c.self.inside.spec; books = c.self.inside.books.items } in
    let old : BooksState = c.args.self.now in
    let before : BookState = c.index_mut-book.result.now in
    let at : slice_get old.books c.args.shard ≡ Some before = book_at inside old c.args.shard before c.self.view_is c.requires.shard c.index_mut-book.ensures.value in
    called_extends inside old c.args.shard c.args.seat c.args.event c.call.result before c.call.new.self c.self.view_is at c.call.ensures.ok

pub returns-clause-lives : goal.returns-clause-lives
returns-clause-lives g c =
    let inside : BooksState = record { spec = c.self.inside.spec; books = c.self.inside.books.items } in
    let old : BooksState = c.args.self.now in
    let before : BookState = c.index_mut-book.result.now in
    let at : slice_get old.books c.args.shard ≡ Some before = book_at inside old c.args.shard before c.self.view_is c.requires.shard c.index_mut-book.ensures.value in
    called_lives old c.args.shard c.args.event c.call.result before at c.call.ensures.lives

pub returns-clause-refused : goal.returns-clause-refused
returns-clause-refused g c =
    let inside : BooksState = record { spec = c.self.inside.spec; books = c.self.inside.books.items } in
    let old : BooksState = c.args.self.now in
    let before : BookState = c.index_mut-book.result.now in
    let at : slice_get old.books c.args.shard ≡ Some before = book_at inside old c.args.shard before c.self.view_is c.requires.shard c.index_mut-book.ensures.value in
    called_refused old c.args.shard c.args.event c.call.result before at c.call.ensures.refused

pub returns-clause-release : goal.returns-clause-release
returns-clause-release g c now ticket is out =
    let inside : BooksState = record { spec = c.self.inside.spec; books = c.self.inside.books.items } in
    let old : BooksState = c.args.self.now in
    let before : BookState = c.index_mut-book.result.now in
    let at : slice_get old.books c.args.shard ≡ Some before = book_at inside old c.args.shard before c.self.view_is c.requires.shard c.index_mut-book.ensures.value in
    c.call.ensures.release now ticket is (out_of_book old c.args.shard ticket before at out)
