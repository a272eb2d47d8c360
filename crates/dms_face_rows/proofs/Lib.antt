mod HeldLaws
mod OctetLaws
mod PageLaws
mod RowLaws
