-- The two kinds of total, as a report takes them.
use Rattle.std.specs.Prelude.{ℤ}
use Rattle.totals.specs.Kinds.{money_lawful, money_row, cell_lawful, cell_row}
use Rattle.totals.specs.declared.table.Cell.{Cell}
use Rattle.plain_survey.specs.Reports.{Kind}

-- money: an amount is a row of one number
abbrev pub money_kind : Kind ℤ
money_kind = record { is_lawful = money_lawful; row = money_row; width = 1 }

-- the table: a cell is a row of six
abbrev pub table_kind : Kind Cell
table_kind = record { is_lawful = λ cell. cell_lawful cell.at; row = λ cell. cell_row cell.at; width = 6 }
