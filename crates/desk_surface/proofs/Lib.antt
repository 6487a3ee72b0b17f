pub mod Marks
pub mod Meets
pub mod Outside
pub mod RaisedRows
pub mod RowsMore
pub mod Jobs
pub mod Painted
