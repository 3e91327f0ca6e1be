use Rattle.ferc.proofs.Charges.{month_small}
use Rattle.ferc.proofs.year.FercYear.bill.Goals as goal

pub month_cents-requires : goal.month_cents-requires
month_cents-requires g c =
    let book = c.args.book.now in
    month_small c.args.self.now.rate (g.B.Book.units book) c.args.self.now.rated (λ k m. g.met.B.Book.units_in_range book k m) (g.B.Book.count book) (g.met.B.Book.count_in_range book).1 c.write_charges.new.statement c.in_ok-write_charges.ensures.cells
