-- Laws of the table: every reply has its kind's shape (TableLaws); what the code of a kind makes (RowLaws).
pub mod TableLaws
pub mod RowLaws
