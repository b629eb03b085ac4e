pub mod AcTables
