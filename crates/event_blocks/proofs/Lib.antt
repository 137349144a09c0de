pub mod EachRecord
