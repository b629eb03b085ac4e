pub mod RepairCases
