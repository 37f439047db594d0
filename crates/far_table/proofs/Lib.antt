pub mod FarColumns
