mod Printed
